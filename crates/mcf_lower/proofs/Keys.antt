use Rattle.std.proofs.Common.{◌≡◌, ℕ, ◌<◌, ◌≤◌, ◌≢◌, List, length, get_or, set, ap, ⊎_elim, arith}
use Rattle.std.proofs.lemmas.Bool.{cases_eq}
use Rattle.mcf_lower.specs.declared.labels.TheConstants.{FAR, UNSETTLED}
use Rattle.mcf_lower.specs.declared.tournament.Tournament.{Tournament}
use Rattle.mcf_lower.specs.Tournament.{key_of, IsTournament}
use Rattle.mcf_lower.specs.Tree.{AreKeyed, IsNearestNode}
use Rattle.mcf_lower.proofs.Trees.{set_same, set_other}

-- one key has changed
pub record IsKeySet (before after : Tournament) (u key : ℕ) : Type 0 where
  pub tournament : IsTournament after
  pub places : after.places ≡ before.places
  pub here : key_of after u ≡ key
  pub others : (v : ℕ) → v < before.places → v ≢ u → key_of after v ≡ key_of before v

-- a node that is not settled comes nearer
pub AreKeyed-label : (distance rank : List ℕ) (before after : Tournament) (u d : ℕ) → AreKeyed distance rank before → IsKeySet before after u d
    → u < length distance → get_or rank u 0 ≡ UNSETTLED → AreKeyed (set distance u d) rank after
AreKeyed-label distance rank before after u d k s l un = record {
  tournament = s.tournament;
  playing = λ v h r. ⊎_elim
      (λ (z : v ≡ u). let q = ap (λ x. key_of after x) z in omega (arith, s.here, set_same distance u d v l z))
      (λ (z : v ≢ u). omega (arith, s.others v (omega (arith, s.places)) z, k.playing v (omega (arith, s.places)) r, set_other distance u d v z))
      (cases_eq v u);
  settled = λ v h r. ⊎_elim
      (λ (z : v ≡ u). let q = ap (λ x. get_or rank x 0) z in absurd (r (omega arith)))
      (λ (z : v ≢ u). omega (arith, s.others v (omega (arith, s.places)) z, k.settled v (omega (arith, s.places)) r))
      (cases_eq v u);
}

-- a node is settled
pub AreKeyed-settle : (distance rank : List ℕ) (before after : Tournament) (v k : ℕ) → AreKeyed distance rank before → IsKeySet before after v FAR
    → v < length rank → k < UNSETTLED → AreKeyed distance (set rank v k) after
AreKeyed-settle distance rank before after v k h s l few = record {
  tournament = s.tournament;
  playing = λ u b r. ⊎_elim
      (λ (z : u ≡ v). absurd (omega (arith, set_same rank v k u l z)))
      (λ (z : u ≢ v). omega (arith, s.others u (omega (arith, s.places)) z, h.playing u (omega (arith, s.places)) (omega (arith, set_other rank v k u z))))
      (cases_eq u v);
  settled = λ u b r. ⊎_elim
      (λ (z : u ≡ v). let q = ap (λ x. key_of after x) z in omega (arith, s.here))
      (λ (z : u ≢ v). omega (arith, s.others u (omega (arith, s.places)) z, h.settled u (omega (arith, s.places)) (λ y. r (omega (arith, set_other rank v k u z)))))
      (cases_eq u v);
}

-- the node with the least key is nearest
pub IsNearestNode-least : (distance rank : List ℕ) (t : Tournament) (b : ℕ) → AreKeyed distance rank t → b < t.places
    → ((v : ℕ) → v < t.places → key_of t b ≤ key_of t v) → key_of t b < FAR → IsNearestNode t.places distance rank b
IsNearestNode-least distance rank t b k l least near = ⊎_elim
    (λ (z : get_or rank b 0 ≡ UNSETTLED). let e = k.playing b l z in record {
      inside = l;
      unsettled = z;
      near = omega arith;
      least = λ v h r. omega (arith, least v h, k.playing v h r);
    })
    (λ (z : get_or rank b 0 ≢ UNSETTLED). absurd (omega (arith, k.settled b l z)))
    (cases_eq (get_or rank b 0) UNSETTLED)

-- as a search begins
pub AreKeyed-begun : (distance rank : List ℕ) (before after : Tournament) (root : ℕ) → ((v : ℕ) → v < before.places → key_of before v ≡ FAR)
    → IsKeySet before after root 0 → ((v : ℕ) → v < before.places → v ≢ root → get_or distance v 0 ≡ FAR) → get_or distance root 0 ≡ 0
    → ((v : ℕ) → v < before.places → get_or rank v 0 ≡ UNSETTLED) → AreKeyed distance rank after
AreKeyed-begun distance rank before after root all s far near un = record {
  tournament = s.tournament;
  playing = λ v h r. ⊎_elim
      (λ (z : v ≡ root). let q = ap (λ x. key_of after x) z in let d = ap (λ x. get_or distance x 0) z in omega (arith, s.here))
      (λ (z : v ≢ root). omega (arith, s.others v (omega (arith, s.places)) z, all v (omega (arith, s.places)), far v (omega (arith, s.places)) z))
      (cases_eq v root);
  settled = λ v h r. absurd (r (un v (omega (arith, s.places))));
}
