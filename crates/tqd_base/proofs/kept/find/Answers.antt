use Rattle.std.proofs.Common.{arith}
use Rattle.tqd_base.proofs.KeptLemmas.{skips_found, skips_more, skips_all, drop_here}
use Rattle.tqd_base.proofs.kept.find.Goals as goal

pub returns-then-eq : goal.returns-then-eq
returns-then-eq c =
    skips_found c.args.files.now c.args.name.now c.loop-i.i c.index-files-i.result _
    (drop_here c.args.files.now c.loop-i.i c.index-files-i.result (omega (arith, c.loop-i-test.true)) c.index-files-i.is) (cc) c.loop-i.invariant

pub loop-i-preserved : goal.loop-i-preserved
loop-i-preserved c =
    skips_more c.args.files.now c.args.name.now c.loop-i.i c.index-files-i.result
    (drop_here c.args.files.now c.loop-i.i c.index-files-i.result (omega (arith, c.loop-i-test.true)) c.index-files-i.is) (cc) c.loop-i.invariant

pub returns : goal.returns
returns c = skips_all c.args.files.now c.args.name.now c.loop-i.i (omega (arith, c.loop-i-test.false)) c.loop-i.invariant
