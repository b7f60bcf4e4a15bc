-- What words of `scenarios` ask for, from their parts.
use Rattle.std.proofs.Common.{ℕ, ◌≡◌, List, [], ◌∷◌, refl, ap}
use Rattle.std.specs.Prelude.{map, codes}
use Rattle.tqd_base.specs.World.{Name}
use Rattle.command_words.specs.Forms.{file_of, files_in, option_in}
use Rattle.command_words.specs.Words.{FilesNamed, ToCompare, compared, files_of, workers_of}

twice : {X Y Z : Type 0} (g : Y → Z) (f : X → Y) (xs : List X) → map (λ x. g (f x)) xs ≡ map g (map f xs)
twice g f [] = refl
twice g f (x ∷ xs) = ap (λ ys. g (f x) ∷ ys) (twice g f xs)

pub compared_by : {X : Type 0} (bytes : X → Name) (orders bill offers : Name) (words terms option : List X) (files : FilesNamed) (workers : ℕ)
    → map bytes terms ≡ files_in (map bytes words) → map bytes option ≡ option_in (map bytes words)
    → files ≡ files_of orders bill offers (codes "-") → workers ≡ workers_of (map bytes option)
    → ToCompare files (map (λ word. file_of (bytes word)) terms) workers ≡ compared orders bill offers (map bytes words)
unfolding compared
compared_by bytes orders bill offers words terms option files workers before behind named number =
    rw (named, number, behind, twice file_of bytes terms, before) refl
