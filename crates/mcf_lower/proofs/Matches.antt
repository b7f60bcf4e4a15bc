use Rattle.std.proofs.Common.{◌≡◌, ℕ, zero, suc, ◌+◌, ◌*◌, ◌<◌, ◌≤◌, ◌≢◌, min, List, get_or, set, ap, ⊎_elim, arith}
use Rattle.std.proofs.lemmas.Bool.{cases_lt, cases_eq}
use Rattle.mcf_lower.specs.Tournament.{ArePlayedBut, ArePlayed}
use Rattle.mcf_lower.proofs.Trees.{set_same, set_other, set_length}

-- a place's key changes: its match is to be played
pub ArePlayedBut-key : (places : ℕ) (keys : List ℕ) (c key : ℕ) → ArePlayed places keys → places ≤ c → ArePlayedBut places (set keys c key) c
ArePlayedBut-key places keys c key p l = record {
  length_twice = set_length keys c key (2 * places) p.length_twice;
  each = λ i some few n m.
      let a = set_other keys c key i (λ z. omega arith) in
      let b = set_other keys c key (2 * i) n in
      let d = set_other keys c key (2 * i + 1) m in
      omega (arith, p.each i some few, a, b, d);
}

-- the match of c is at i: it is played, and then that of i is to be played
pub ArePlayedBut-next : (places : ℕ) (keys : List ℕ) (c i x : ℕ) → ArePlayedBut places keys c → 1 ≤ i → i < places → 2 * i ≤ c → c ≤ 2 * i + 1
    → x ≡ min (get_or keys (2 * i) 0) (get_or keys (2 * i + 1) 0) → ArePlayedBut places (set keys i x) i
ArePlayedBut-next places keys c i x p some few low high e = record {
  length_twice = set_length keys i x (2 * places) p.length_twice;
  each = λ j sj fj n m.
      let b = set_other keys i x (2 * j) n in
      let d = set_other keys i x (2 * j + 1) m in
      ⊎_elim
      (λ (z : j ≡ i).
      let a = set_same keys i x j (omega (arith, p.length_twice)) z in
      let f = ap (λ y. get_or keys (2 * y) 0) z in
      let g = ap (λ y. get_or keys (2 * y + 1) 0) z in
      omega arith)
      (λ (z : j ≢ i).
      let a = set_other keys i x j z in
      omega (arith, p.each j sj fj (λ q. z (omega arith)) (λ q. z (omega arith))))
      (cases_eq j i);
}

-- all are played once the match of c ended as before
pub ArePlayed-same : (places : ℕ) (keys : List ℕ) (c i : ℕ) → ArePlayedBut places keys c → 2 * i ≤ c → c ≤ 2 * i + 1
    → get_or keys i 0 ≡ min (get_or keys (2 * i) 0) (get_or keys (2 * i + 1) 0) → ArePlayed places keys
ArePlayed-same places keys c i p low high e = record {
  length_twice = p.length_twice;
  each = λ j sj fj. ⊎_elim
      (λ (z : j ≡ i).
      let a = ap (λ y. get_or keys y 0) z in
      let f = ap (λ y. get_or keys (2 * y) 0) z in
      let g = ap (λ y. get_or keys (2 * y + 1) 0) z in
      omega arith)
      (λ (z : j ≢ i). p.each j sj fj (λ q. z (omega arith)) (λ q. z (omega arith)))
      (cases_eq j i);
}

-- or once there is no match left
pub ArePlayed-top : (places : ℕ) (keys : List ℕ) (c : ℕ) → ArePlayedBut places keys c → c ≤ 1 → ArePlayed places keys
ArePlayed-top places keys c p l = record {
  length_twice = p.length_twice;
  each = λ j sj fj. p.each j sj fj (λ q. omega arith) (λ q. omega arith);
}

-- which match an index is in
half : (j : ℕ) → (i : ℕ) × (2 * i ≤ j) × (j ≤ 2 * i + 1)
half zero = (0, omega arith, omega arith)
half (suc j) =
    let r = half j in
    ⊎_elim
    (λ (z : j < 2 * r.0 + 1). (r.0, omega (arith, r.1), omega (arith, r.2)))
    (λ (z : 2 * r.0 + 1 ≤ j). (r.0 + 1, omega (arith, r.1, r.2), omega (arith, r.1, r.2)))
    (cases_lt j (2 * r.0 + 1))

-- no key is less than the one at index 1
top_below : (n places : ℕ) (keys : List ℕ) → ArePlayed places keys → (j : ℕ) → j ≤ n → 1 ≤ j → j < 2 * places → get_or keys 1 0 ≤ get_or keys j 0
top_below zero places keys p j l s f = absurd (omega arith)
top_below (suc n) places keys p j l s f = ⊎_elim
    (λ (z : j ≡ 1). let q = ap (λ y. get_or keys y 0) z in omega arith)
    (λ (z : j ≢ 1).
    let r = half j in
    let i : ℕ = r.0 in
    let low : 2 * i ≤ j = r.1 in
    let high : j ≤ 2 * i + 1 = r.2 in
    let some : 1 ≤ i = omega arith in
    let up = top_below n places keys p i (omega arith) some (omega arith) in
    let e = p.each i some (omega arith) in
    ⊎_elim
    (λ (y : j ≡ 2 * i). let q = ap (λ w. get_or keys w 0) y in omega arith)
    (λ (y : j ≢ 2 * i). let k : j ≡ 2 * i + 1 = omega arith in let q = ap (λ w. get_or keys w 0) k in omega arith)
    (cases_eq j (2 * i)))
    (cases_eq j 1)

pub top_least : (places : ℕ) (keys : List ℕ) → ArePlayed places keys → (j : ℕ) → 1 ≤ j → j < 2 * places → get_or keys 1 0 ≤ get_or keys j 0
top_least places keys p j s f = top_below j places keys p j (omega arith) s f
