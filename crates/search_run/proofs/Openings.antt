-- Every book of a job is later than an opening state of it.
use Rattle.std.proofs.Common.{ℕ, ◌≡◌, ◌<◌, List, [], ◌∷◌, length, None, arith, refl, sym, subst}
use Rattle.interval_box.specs.Ranges.{IsRoot}
use Rattle.search_book.specs.declared.node.Node.{Node}
use Rattle.search_book.specs.declared.node.Phase.TheVariants.{Open}
use Rattle.search_book.specs.Nodes.{area_of, phase_of}
use Rattle.search_book.specs.BookState.{BookState}
use Rattle.search_book.specs.Later.{StaysSettled}
use Rattle.search_run.specs.Opened.{IsLaterThanOpening}

-- the opening node of a book whose node 0 is this
abbrev opening_nodes : BookState → List Node
opening_nodes t = record { area = area_of t.nodes 0; phase = Open } ∷ []

pub later_than_opening : (t : BookState) → 0 < length t.nodes → IsRoot t.job (area_of t.nodes 0) → IsLaterThanOpening t.job t
later_than_opening t some root =
    let zero : (n : ℕ) → n < length (opening_nodes t) → n ≡ 0 = λ n below. omega arith in
    record {
      opening = record { job = t.job; nodes = opening_nodes t; best = None };
      is_opening = record { job_is = refl; root = area_of t.nodes 0; is_root = root; nodes = refl; best = refl };
      later = record {
        job = refl;
        nodes = omega arith;
        areas = λ n below. subst (λ (m : ℕ). area_of t.nodes m ≡ area_of (opening_nodes t) m) (sym (zero n below)) refl;
        phases = λ n below. subst (λ (m : ℕ). StaysSettled (phase_of (opening_nodes t) m) (phase_of t.nodes m)) (sym (zero n below)) tt;
        best = tt;
      };
    }
