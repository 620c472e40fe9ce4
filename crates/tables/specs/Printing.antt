-- What is printed, line after line.
use Rattle.std.specs.Prelude.{◌≡◌, ℕ, List, ◌++◌, Some, codes, Option}
use Rattle.std.specs.Iterator.{Drains}
use Rattle.std.specs.List.{flat_map}

-- a text, and a newline
abbrev pub line : List ℕ → List ℕ
line text = text ++ codes "\n"

-- each value that an iterator gives is printed, in a line of its own
abbrev pub PrintsEach : {I T : Type 0} → (I → Option T → I → Type 0) → (T → Option (List ℕ)) → I → List ℕ → List ℕ → Type 0
PrintsEach {T = T} next output values old new = (xs : List T) × Drains next values xs × ((text : T → List ℕ) → ((x : T) → output x ≡ Some (text x)) → new ≡ old ++ flat_map (λ x. line (text x)) xs)
