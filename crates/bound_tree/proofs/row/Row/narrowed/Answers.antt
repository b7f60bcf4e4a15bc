use Rattle.std.proofs.Common.{◌≡◌, rules}
use Rattle.bound_tree.specs.Narrowed.{AreNarrowedPlaces}
use Rattle.bound_tree.proofs.NarrowedValues.{is_narrowed}
use Rattle.bound_tree.proofs.row.Row.narrowed.Goals as goal

pub returns : goal.returns
returns c =
    let row = c.args.self.now in
    let goods : c.in_ok-to_vec.field-0.items ≡ row.goods = search rules in
    let places : AreNarrowedPlaces c.args.job.now c.args.area.now c.args.part.now row.places c.in_ok-places.places.items = search rules in
    is_narrowed c.args.job.now c.args.area.now c.args.part.now row _ c.requires.part_of_job c.requires.within c.requires.fits goods places
