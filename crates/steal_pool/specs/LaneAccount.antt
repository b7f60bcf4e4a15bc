-- The account of a lane: what holds of its tickets, its owner and all its passes between any two steps, and how each kind of step changes one of them.
use Rattle.std.specs.Prelude.{◌≡◌, ℕ, ◌+◌, ◌-◌, ◌≤◌, ◌⊎◌, ◌==◌, if◌then◌else◌, true, false, List, [], ◌∷◌, ◌++◌, length}
use Rattle.std.specs.List.{All, sum_by}
use Rattle.steal_pool.specs.declared.account.Account.{Account}

-- how often the ticket stands in the list
abbrev pub times : ℕ → List ℕ → ℕ
times ticket tickets = sum_by (λ other. if other == ticket then 1 else 0) tickets

-- a pass with so many parts that stole nothing
abbrev pub fresh : ℕ → Account
fresh parts = record { owns = false; put = []; got = []; held = []; parts = parts; whole = 0 }

-- a pass that was joined into another
abbrev pub spent : Account
spent = fresh 0

-- the owner of a lane with no pass
abbrev pub opened : Account
opened = record { owns = true; put = []; got = []; held = []; parts = 0; whole = 0 }

-- the weight of all tickets that an owner or a pass took
abbrev pub weight_of : (ℕ → ℕ) → Account → ℕ
weight_of h account = sum_by h account.got + sum_by h account.held

-- The first account is the owner's, and all others are of passes, each with at least one part or spent; the parts add up to those of the lane.
-- What the owner put is what was taken and then the tickets of the lane. Each number was taken as often as owner and passes took it, which is to say that both weigh the same however numbers are weighed
pub record LaneAccount (tickets : List ℕ) (accounts : List Account) : Type 0 where
  pub owner : Account
  pub passes : List Account
  pub all : accounts ≡ owner ∷ passes
  pub owns : owner.owns ≡ true
  pub each_pass : All (λ pass. ((pass.owns ≡ false) × (1 ≤ pass.parts)) ⊎ (pass ≡ spent)) passes
  pub parts_add_up : owner.whole ≡ owner.parts + sum_by (λ pass. pass.parts) passes
  pub taken : List ℕ
  pub put : owner.put ≡ taken ++ tickets
  pub as_often : (h : ℕ → ℕ) → sum_by h taken ≡ weight_of h owner + sum_by (weight_of h) passes

-- after a push of these tickets
abbrev pub pushed : Account → List ℕ → Account
pushed account tickets = record account { put = account.put ++ tickets }

-- after a pop or a steal of these tickets
abbrev pub took : Account → List ℕ → Account
took account tickets = record account { got = account.got ++ tickets }

-- how many tickets were taken from a lane whose owner has all parts
abbrev pub gone : Account → ℕ
gone account = length account.got + length account.held

-- the owner holds what was stolen with a pass, and the parts of the pass, until it cuts them off again
abbrev pub holding : Account → Account → Account
holding owner pass = record owner { held = owner.held ++ pass.got; parts = owner.parts + pass.parts }

-- so many of the parts that the owner holds are cut off
abbrev pub keeping : ℕ → Account → Account
keeping parts owner = record owner { parts = owner.parts - parts }

-- all that the owner holds is cut off
abbrev pub released : Account → Account
released owner = record owner { held = []; parts = 0 }

abbrev pub regained : Account → Account
regained owner = record { owns = false; put = []; got = owner.held; held = []; parts = owner.parts; whole = 0 }

-- the lane gets its parts
abbrev pub parted : ℕ → Account → Account
parted parts owner = record owner { whole = parts }
