use Rattle.std.proofs.Common.{◌≡◌, rules, eqb}
use Rattle.std.specs.List.{dedup}
use Rattle.std.proofs.lemmas.List.Filters.{dedup_is}
use Rattle.std.proofs.lemmas.List.Kept.{Contains-dedup_nat, Contains-from_dedup}
use Rattle.std.proofs.lemmas.List.Sorted.{Contains-permutation, IsPermutation-sym}
use Rattle.std.proofs.lemmas.Map.Keys.{IsStrictlyIncreasing-dedup}
use Rattle.tqd_instance.specs.Parts.{froms_stated}
use Rattle.tqd_instance.proofs.offers.froms_of.Goals as goal

pub returns : goal.returns
returns c =
    let sorted = c.sort_unstable.new.self.items in
    let stated : c.in_ok-froms.froms.items ≡ froms_stated c.args.parts.now c.args.i = search rules in
    let kept : c.dedup.new.self.items ≡ dedup eqb sorted = dedup_is eqb sorted c.dedup.new.self.items c.dedup.ensures.filtered in
    let moved = c.sort_unstable.ensures.permutation in
    record {
      rising = rw kept (IsStrictlyIncreasing-dedup sorted c.sort_unstable.ensures.sorted);
      stated = λ from. (
        (λ has. rw (← stated) (Contains-permutation sorted c.in_ok-froms.froms.items from (IsPermutation-sym c.in_ok-froms.froms.items sorted moved) (Contains-from_dedup eqb sorted from (rw kept at has)))),
        (λ has. rw kept (Contains-dedup_nat sorted from (Contains-permutation c.in_ok-froms.froms.items sorted from moved (rw (← stated) at has)))),
      );
    }
