-- Each word states its job, or halts the reading.
use Rattle.std.proofs.Common.{◌+◌, map, ◌∙◌, ap, arith}
use Rattle.std.proofs.lemmas.List.{length-map}
use Rattle.std.proofs.lemmas.Result.{err_from_is_err_and}
use Rattle.std.specs.Prelude.{string_bytes}
use Rattle.std.specs.Option.{option_copied}
use Rattle.command_words.specs.Forms.{file_of}
use Rattle.tqd_top.proofs.ScenarioWay.{way_ends, way_more, way_stops, word_names}
use Rattle.tqd_top.proofs.compare.read_jobs.Goals as goal

pub returns-in_err-job : goal.returns-in_err-job
returns-in_err-job g c =
    let a = g.D.Desk.absent_is_empty in
    let old = g.D.Desk.state c.args.desk.now in
    let mid = g.D.Desk.state c.loop-word.desk in
    let new = g.D.Desk.state c.read_scenario.new.desk in
    let words = c.args.terms.now in
    let terms = option_copied c.file.result in
    let way = c.loop-word.invariant in
    let names = word_names (λ word. file_of (string_bytes word)) words c.loop-word.word-index c.word-item.result terms c.loop-word-test.true c.word-item.is
    (c.file.ensures ∙ ap file_of c.deref.ensures) in
    let p = err_from_is_err_and c.from_residual.result c.from_residual.ensures.1 in
    rw (p.1, p.2) (way_stops a old mid new c.args.kept.now (map (λ word. file_of (string_bytes word)) words) c.loop-word.jobs (c.len.result + 1) c.loop-word.word-index terms _ way
    (omega (arith, c.loop-word-test.true, length-map words (λ word. file_of (string_bytes word)))) names (ap (λ n. n + 1) (c.len.ensures ∙ way.counted)) c.in_err-job.ensures)

pub loop-word-preserved : goal.loop-word-preserved
loop-word-preserved g c =
    let a = g.D.Desk.absent_is_empty in
    let old = g.D.Desk.state c.args.desk.now in
    let mid = g.D.Desk.state c.loop-word.desk in
    let new = g.D.Desk.state c.read_scenario.new.desk in
    let words = c.args.terms.now in
    let terms = option_copied c.file.result in
    let way = c.loop-word.invariant in
    let names = word_names (λ word. file_of (string_bytes word)) words c.loop-word.word-index c.word-item.result terms c.loop-word-test.true c.word-item.is
    (c.file.ensures ∙ ap file_of c.deref.ensures) in
    let next = c.in_ok-job.ensures in
    rw c.in_ok-push.ensures (way_more a old mid new c.args.kept.now (map (λ word. file_of (string_bytes word)) words) c.loop-word.jobs (c.len.result + 1) c.loop-word.word-index terms c.in_ok-job.job
    way names (ap (λ n. n + 1) (c.len.ensures ∙ way.counted)) next.0 next.1)

pub returns : goal.returns
returns g c =
    let words = c.args.terms.now in
    way_ends g.D.Desk.absent_is_empty (g.D.Desk.state c.args.desk.now) (g.D.Desk.state c.loop-word.desk) c.args.kept.now (map (λ word. file_of (string_bytes word)) words) c.loop-word.jobs
    c.loop-word.word-index (omega (arith, c.loop-word-test.false, c.loop-word.auto.word-index-end, length-map words (λ word. file_of (string_bytes word)))) c.loop-word.invariant
