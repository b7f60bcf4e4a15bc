-- The parts of the words.
use Rattle.std.specs.Prelude.{string_bytes}
use Rattle.command_words.proofs.Comparing.{compared_by}
use Rattle.command_words.proofs.words.compared.Goals as goal

pub returns : goal.returns
returns c =
    compared_by string_bytes c.args.orders.now c.args.bill.now c.args.offers.now c.args.words.now c.split_option.result.0.now c.split_option.result.1.now _ _
    c.split_option.ensures.files c.split_option.ensures.option c.job_files.ensures c.workers.ensures
