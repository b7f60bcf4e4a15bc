use Rattle.std.proofs.Common.{◌∙◌}
use Rattle.lagrangian.proofs.Bundles.{AreAllCapsOf-kept, IsWhole-kept_all}
use Rattle.lagrangian.proofs.climb.Climber.aim.Goals as goal

pub returns-clause-made : goal.returns-clause-made
returns-clause-made c = λ job made. record {
  prices = made.prices;
  tried = record { count = c.aim.ensures.count ∙ made.tried.count; in_range = c.aim.ensures.tried };
  bundle = record {
    count = c.aim.ensures.kept.count ∙ made.bundle.count;
    caps = AreAllCapsOf-kept job c.args.self.now.bundle.suppliers.items c.aim.new.self.suppliers.items c.aim.ensures.kept made.bundle.caps;
    width = c.aim.ensures.width ∙ made.bundle.width;
  };
}

pub returns-clause-whole : goal.returns-clause-whole
returns-clause-whole c = λ job area made whole.
    IsWhole-kept_all job area c.args.self.now.bundle.suppliers.items c.aim.new.self.suppliers.items c.aim.ensures.kept made.bundle.count whole
