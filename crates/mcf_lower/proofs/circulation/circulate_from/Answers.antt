use Rattle.mcf_lower.proofs.Answering.{IsFlow-served, Fits-priced, IsCutSet-off}
use Rattle.mcf_lower.proofs.circulation.circulate_from.Goals as goal

pub returns-then-served : goal.returns-then-served
returns-then-served c =
    let p = c.in_ok-served.ensures.pseudoflow in
    let a = rw (c.deref.ensures.value) at c.in_ok-flows.ensures in
    let s = rw (c.if-served.true) at c.in_ok-served.ensures.served in
    rw (c.of-units.ensures)
    (record {
      is_flow = IsFlow-served c.args.net.now c.serve_all.new.flow c.in_ok-flows.field-0.items c.nodes.ensures.network p s a;
      nodes = p.priced.nodes;
      small = p.small;
      fits = Fits-priced c.args.net.now c.serve_all.new.flow.room.items c.serve_all.new.flow.numbers.items c.in_ok-flows.field-0.items p.bounded p.priced a;
    })

pub returns : goal.returns
returns c =
    let a = rw (c.deref-else-served.ensures.value) at c.in_ok-settled.ensures in
    let s = rw (c.if-served.false) at c.in_ok-served.ensures.served in
    rw (c.of.ensures)
    (IsCutSet-off c.args.net.now c.serve_all.new.flow c.serve_all.new.labels c.in_ok-settled.field-0.items
    c.in_ok-served.ensures.pseudoflow s a)
