use Rattle.std.proofs.Common.{◌∙◌, List, length, sym, ap, subst, arith}
use Rattle.tqd_base.specs.declared.kept.StoredFile.{StoredFile}
use Rattle.tqd_base.specs.Kept.{IsFirstAt, file_at, world_at}
use Rattle.tqd_base.specs.World.{set_file}
use Rattle.tqd_base.proofs.KeptLemmas.{within_first, files_set, files_push}
use Rattle.tqd_base.proofs.store.Store.set_file.Goals as goal

pub index_mut-requires : goal.index_mut-requires
index_mut-requires c =
    omega (arith, within_first c.deref.result.now c.in-Some.i c.args.name.now c.in-Some.ensures, ap length c.deref.ensures.value, c.args.self.now.files.ok.0)

pub returns-in-Some-clause-set : goal.returns-in-Some-clause-set
returns-in-Some-clause-set c =
    let first : IsFirstAt c.args.self.now.files.items c.args.name.now c.in-Some.i =
    subst (λ (l : List StoredFile). IsFirstAt l c.args.name.now c.in-Some.i) c.deref.ensures.value c.in-Some.ensures in
    files_set c.args.self.now.files.items c.args.self.now.output.items c.args.self.now.slots.items c.in-Some.i _ c.args.name.now first c.in_ok-name_kept.ensures.ok
    ∙ ap (set_file (world_at c.args.self.now.files.items c.args.self.now.output.items c.args.self.now.slots.items) c.args.name.now) c.in_ok-bytes.ensures.items

pub returns-in_ok-push-in-None-clause-set : goal.returns-in_ok-push-in-None-clause-set
returns-in_ok-push-in-None-clause-set c =
    ap (λ (l : List StoredFile). world_at l c.args.self.now.output.items c.args.self.now.slots.items) c.in_ok-push-in-None.ensures.items
    ∙ files_push c.args.self.now.files.items c.args.self.now.output.items c.args.self.now.slots.items _ c.args.name.now
    (ap (λ (l : List StoredFile). file_at l c.args.name.now) (sym c.deref.ensures.value) ∙ c.in-None.ensures) c.in_ok-name_kept.ensures.ok
    ∙ ap (set_file (world_at c.args.self.now.files.items c.args.self.now.output.items c.args.self.now.slots.items) c.args.name.now) c.in_ok-bytes.ensures.items
