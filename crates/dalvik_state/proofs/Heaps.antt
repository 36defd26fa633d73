-- The heap as lists.
use Rattle.std.proofs.Common.{◌≡◌, ℕ, true, zero, suc, List, [], ◌∷◌, ◌++◌, ◌≤◌, length, arith, ap, refl, sym, ◌∙◌}
use Rattle.std.specs.Prelude.{map, Option, Some, None, slice_get, slice_set}
use Rattle.std.specs.Option.{option_map}
use Rattle.dalvik_state.specs.declared.world.Cell.{Cell}
use Rattle.dalvik_state.specs.declared.world.Exposed.{Exposed}
use Rattle.dalvik_state.specs.Worlds.{Shape, Spot, place_spot, print_at, reshape, shape_of, spot_of}

pub spot_at : (cells : List Cell) (i : ℕ) → slice_get (map spot_of cells) i ≡ option_map spot_of (slice_get cells i)
spot_at [] i = refl
spot_at (c ∷ cs) zero = refl
spot_at (c ∷ cs) (suc i) = spot_at cs i

pub spots_more : (cells more : List Cell) → map spot_of (cells ++ more) ≡ map spot_of cells ++ map spot_of more
spots_more [] more = refl
spots_more (c ∷ cs) more = ap (λ (ss : List Spot). spot_of c ∷ ss) (spots_more cs more)

pub spots_long : (cells : List Cell) → length (map spot_of cells) ≡ length cells
spots_long [] = refl
spots_long (c ∷ cs) = ap suc (spots_long cs)

-- a cell whose thing is another
pub reshaped : (f : Shape → Shape) (cells : List Cell) (i : ℕ) (c d : Cell) → slice_get cells i ≡ Some c → shape_of d.thing ≡ f (shape_of c.thing) → d.place ≡ c.place → map spot_of (slice_set cells i d) ≡ reshape f (map spot_of cells) i
reshaped f [] i c d g s p = refl
reshaped f (x ∷ xs) zero c d g s p = let e : x ≡ c = cc in (λ j. record { shape = (s ∙ ap (λ (y : Cell). f (shape_of y.thing)) (sym e)) j; place = (p ∙ ap (λ (y : Cell). y.place) (sym e)) j } ∷ map spot_of xs)
reshaped f (x ∷ xs) (suc i) c d g s p = ap (λ (ss : List Spot). spot_of x ∷ ss) (reshaped f xs i c d g s p)

-- past the end nothing changes
pub reshaped_past : (f : Shape → Shape) (cells : List Cell) (i : ℕ) → length cells ≤ i → reshape f (map spot_of cells) i ≡ map spot_of cells
reshaped_past f [] i h = refl
reshaped_past f (x ∷ xs) zero h = absurd (omega arith)
reshaped_past f (x ∷ xs) (suc i) h = ap (λ (ss : List Spot). spot_of x ∷ ss) (reshaped_past f xs i (omega arith))

-- a cell that gets a place
pub placed : (place : ℕ) (cells : List Cell) (i : ℕ) (c d : Cell) → slice_get cells i ≡ Some c → d.thing ≡ c.thing → d.place ≡ Some place → map spot_of (slice_set cells i d) ≡ place_spot place (map spot_of cells) i
placed place [] i c d g t p = refl
placed place (x ∷ xs) zero c d g t p = let e : x ≡ c = cc in (λ j. record { shape = (ap shape_of t ∙ ap (λ (y : Cell). shape_of y.thing) (sym e)) j; place = p j } ∷ map spot_of xs)
placed place (x ∷ xs) (suc i) c d g t p = ap (λ (ss : List Spot). spot_of x ∷ ss) (placed place xs i c d g t p)

pub placed_past : (place : ℕ) (cells : List Cell) (i : ℕ) → length cells ≤ i → place_spot place (map spot_of cells) i ≡ map spot_of cells
placed_past place [] i h = refl
placed_past place (x ∷ xs) zero h = absurd (omega arith)
placed_past place (x ∷ xs) (suc i) h = ap (λ (ss : List Spot). spot_of x ∷ ss) (placed_past place xs i (omega arith))

-- what is printed at a place
pub printed_there : (es : List Exposed) (i : ℕ) (e f : Exposed) → slice_get es i ≡ Some e → f.number ≡ e.number → f.printed ≡ true → slice_set es i f ≡ print_at es i
printed_there [] i e f g n p = refl
printed_there (x ∷ xs) zero e f g n p = let same : x ≡ e = cc in (λ j. record { number = (n ∙ ap (λ (y : Exposed). y.number) (sym same)) j; printed = p j } ∷ xs)
printed_there (x ∷ xs) (suc i) e f g n p = ap (λ (ys : List Exposed). x ∷ ys) (printed_there xs i e f g n p)

pub printed_past : (es : List Exposed) (i : ℕ) → length es ≤ i → print_at es i ≡ es
printed_past [] i h = refl
printed_past (x ∷ xs) zero h = absurd (omega arith)
printed_past (x ∷ xs) (suc i) h = ap (λ (ys : List Exposed). x ∷ ys) (printed_past xs i (omega arith))
