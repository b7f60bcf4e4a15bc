use Rattle.std.proofs.Common.{◌≡◌, ◌∙◌, Some, List, length, sym, ap, subst, arith}
use Rattle.std.specs.Prelude.{slice_get}
use Rattle.tqd_base.specs.declared.kept.StoredFile.{StoredFile}
use Rattle.tqd_base.specs.Kept.{IsFirstAt, file_at, world_at}
use Rattle.tqd_base.specs.World.{Name, append, name_at}
use Rattle.tqd_base.proofs.KeptLemmas.{within_first}
use Rattle.tqd_base.proofs.StoreLemmas.{within_slots, get_here, put_world, put_stays, put_absent, name_here, on_ok, on_err}
use Rattle.tqd_base.proofs.store.Store.put.Goals as goal

pub index-requires : goal.index-requires
index-requires c = omega (arith, within_slots c.args.self.now.files.items c.args.self.now.output.items c.args.self.now.slots.items c.args.slot c.requires, c.args.self.now.slots.ok.0)

pub index_mut-requires : goal.index_mut-requires
index_mut-requires c =
    omega (arith, within_first c.deref.result.now c.in-Some.i c.as_str.result.now c.in-Some.ensures, ap length c.deref.ensures.value, c.args.self.now.files.ok.0)

pub returns-in-Some-clause-put : goal.returns-in-Some-clause-put
returns-in-Some-clause-put c =
    let index_lt = within_slots c.args.self.now.files.items c.args.self.now.output.items c.args.self.now.slots.items c.args.slot c.requires in
    let index_here : slice_get c.args.self.now.slots.items c.args.slot ≡ Some c.index.result.now = get_here c.args.self.now.slots.items c.args.slot c.index.result.now index_lt c.index.ensures in
    let named : c.as_str.result.now ≡ name_at (world_at c.args.self.now.files.items c.args.self.now.output.items c.args.self.now.slots.items) c.args.slot =
    c.as_str.ensures.value ∙ sym (name_here c.args.self.now.files.items c.args.self.now.output.items c.args.self.now.slots.items c.args.slot c.index.result.now c.requires index_here) in
    let first : IsFirstAt c.args.self.now.files.items c.as_str.result.now c.in-Some.i =
    subst (λ (l : List StoredFile). IsFirstAt l c.as_str.result.now c.in-Some.i) c.deref.ensures.value c.in-Some.ensures in
    let here : slice_get c.args.self.now.files.items c.in-Some.i ≡ Some c.index_mut.result.now =
    get_here c.args.self.now.files.items c.in-Some.i c.index_mut.result.now (within_first _ _ _ first) c.index_mut.ensures.value in
    on_ok c.grow.result _ _ (λ grown. put_world c.args.self.now.files.items c.args.self.now.output.items c.args.self.now.slots.items c.in-Some.i c.index_mut.result.now c.grow.new.self c.as_str.result.now c.args.piece.now first here grown c.grow.ensures.named
    ∙ ap (λ (n : Name). append (world_at c.args.self.now.files.items c.args.self.now.output.items c.args.self.now.slots.items) n c.args.piece.now) named) c.grow.ensures.grown

pub returns-in-Some-clause-stays : goal.returns-in-Some-clause-stays
returns-in-Some-clause-stays c =
    let first : IsFirstAt c.args.self.now.files.items c.as_str.result.now c.in-Some.i =
    subst (λ (l : List StoredFile). IsFirstAt l c.as_str.result.now c.in-Some.i) c.deref.ensures.value c.in-Some.ensures in
    let here : slice_get c.args.self.now.files.items c.in-Some.i ≡ Some c.index_mut.result.now =
    get_here c.args.self.now.files.items c.in-Some.i c.index_mut.result.now (within_first _ _ _ first) c.index_mut.ensures.value in
    on_err c.grow.result _ _ (λ stays. put_stays c.args.self.now.files.items c.args.self.now.output.items c.args.self.now.slots.items c.in-Some.i c.index_mut.result.now c.grow.new.self c.as_str.result.now first here stays c.grow.ensures.named) c.grow.ensures.stays

pub returns-in-None-clause-put : goal.returns-in-None-clause-put
returns-in-None-clause-put c =
    let index_lt = within_slots c.args.self.now.files.items c.args.self.now.output.items c.args.self.now.slots.items c.args.slot c.requires in
    let index_here : slice_get c.args.self.now.slots.items c.args.slot ≡ Some c.index.result.now = get_here c.args.self.now.slots.items c.args.slot c.index.result.now index_lt c.index.ensures in
    let named : c.as_str.result.now ≡ name_at (world_at c.args.self.now.files.items c.args.self.now.output.items c.args.self.now.slots.items) c.args.slot =
    c.as_str.ensures.value ∙ sym (name_here c.args.self.now.files.items c.args.self.now.output.items c.args.self.now.slots.items c.args.slot c.index.result.now c.requires index_here) in
    put_absent c.args.self.now.files.items c.args.self.now.output.items c.args.self.now.slots.items c.as_str.result.now c.args.piece.now (ap (λ (l : List StoredFile). file_at l c.as_str.result.now) (sym c.deref.ensures.value) ∙ c.in-None.ensures)
    ∙ ap (λ (n : Name). append (world_at c.args.self.now.files.items c.args.self.now.output.items c.args.self.now.slots.items) n c.args.piece.now) named
