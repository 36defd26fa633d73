-- How values are shown. Objects get their place in the list of exposed ones from left to right, when they are made by an
-- event, given, or first shown; texts and classes get none (this project's profile).
use Rattle.std.specs.Prelude.{ℕ, ◌+◌, Bool, true, false, ◌&&◌, List, [], ◌∷◌, ◌++◌, drop, length, Option, Some, None, nat_eq, position, slice_get}
use Rattle.dalvik_defs.specs.Names.{Text, is_reference, is_wide}
use Rattle.dalvik_defs.specs.State.{World, Exposed, Value, Word, Low, High, Object, Literal, Class, Thing, with_thing, kind_of}
use Rattle.dalvik_defs.specs.declared.events.Shown.{Shown}
use Rattle.dalvik_defs.specs.declared.events.Shown.TheVariants as shown

-- the place of an object in the list
abbrev pub place_in : List Exposed → ℕ → Option ℕ
place_in es n = position (λ e. nat_eq e.number n) es

abbrev pub mark_printed : ℕ → List Exposed → List Exposed
mark_printed n [] = []
mark_printed n (e ∷ es) = elim (nat_eq e.number n) [ true ↦ record e { printed = true } ∷ es | false ↦ e ∷ mark_printed n es ]

abbrev pub is_printed : List Exposed → ℕ → Bool
is_printed es i = elim (slice_get es i) [ Some e ↦ e.printed | None ↦ false ]

-- an object that isn't in the list gets the next place
abbrev pub expose : World → ℕ → Bool → World
expose w n printed = record w { exposed = w.exposed ++ record { number = n; printed = printed } ∷ [] }

-- an object's type is printed the first time
abbrev pub show_at : World → ℕ → Option ℕ → World × Shown
show_at w n (Some i) = elim (is_printed w.exposed i) [
  | true ↦ (w, shown.Again i)
  | false ↦ (record w { exposed = mark_printed n w.exposed }, shown.First i (kind_of w (Object n)))
]
show_at w n None = (expose w n true, shown.First (length w.exposed) (kind_of w (Object n)))

-- a word is shown by its declared type: 0 of a reference type is null
abbrev pub show_word : Text → ℕ → Shown
show_word kind n = elim (is_reference kind && nat_eq n 0) [ true ↦ shown.Null | false ↦ shown.Word n ]

abbrev pub show : World → Text → Value → World × Shown
show w kind (Word n) = (w, show_word kind n)
show w kind (Low n) = (w, shown.Wide n)
show w kind (High n) = (w, shown.Wide n)
show w kind (Object n) = show_at w n (place_in w.exposed n)
show w kind (Literal t) = (w, shown.Literal t)
show w kind (Class t) = (w, shown.Class t)

-- the registers of a value of this type
abbrev pub skip : Text → List Value → List Value
skip kind vs = elim (is_wide kind) [ true ↦ drop 1 vs | false ↦ vs ]

-- the values of a call by their types, from left to right; a wide stands in two registers
abbrev pub show_all : World → List Text → List Value → World × List Shown
show_all w [] vs = (w, [])
show_all w (k ∷ ks) [] = (w, [])
show_all w (k ∷ ks) (v ∷ vs) = let a = show w k v in let b = show_all a.0 ks (skip k vs) in (b.0, a.1 ∷ b.1)

abbrev pub show_option : World → Text → Option Value → World × Option Shown
show_option w kind None = (w, None)
show_option w kind (Some v) = let a = show w kind v in (a.0, Some a.1)

-- a new object that is given gets its place, and isn't printed
abbrev pub with_given : World → Thing → World
with_given w t = expose (with_thing w t) (length w.heap) false
