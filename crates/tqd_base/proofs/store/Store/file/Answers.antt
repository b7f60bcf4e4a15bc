use Rattle.std.proofs.Common.{◌≡◌, ◌∙◌, Some, List, length, sym, ap, subst, arith}
use Rattle.std.specs.Prelude.{slice_get}
use Rattle.tqd_base.specs.declared.kept.StoredFile.{StoredFile}
use Rattle.tqd_base.specs.Kept.{IsFirstAt, file_at}
use Rattle.tqd_base.specs.World.{Bytes}
use Rattle.tqd_base.proofs.KeptLemmas.{within_first, file_first}
use Rattle.tqd_base.proofs.StoreLemmas.{get_here}
use Rattle.tqd_base.proofs.store.Store.file.Goals as goal

pub index-requires : goal.index-requires
index-requires c =
    omega (arith, within_first c.deref.result.now c.in-Some.i c.args.name.now c.in-Some.ensures, ap length c.deref.ensures.value, c.args.self.now.files.ok.0)

pub returns-in-Some : goal.returns-in-Some
returns-in-Some c =
    let first : IsFirstAt c.args.self.now.files.items c.args.name.now c.in-Some.i =
    subst (λ (l : List StoredFile). IsFirstAt l c.args.name.now c.in-Some.i) c.deref.ensures.value c.in-Some.ensures in
    let here : slice_get c.args.self.now.files.items c.in-Some.i ≡ Some c.index.result.now =
    get_here c.args.self.now.files.items c.in-Some.i c.index.result.now (within_first _ _ _ first) c.index.ensures in
    ap (λ (b : Bytes). Some b) c.as_slice.ensures.value ∙ sym (file_first c.args.self.now.files.items c.in-Some.i c.index.result.now c.args.name.now first here)

pub returns-in-None : goal.returns-in-None
returns-in-None c = sym (ap (λ (l : List StoredFile). file_at l c.args.name.now) (sym c.deref.ensures.value) ∙ c.in-None.ensures)
