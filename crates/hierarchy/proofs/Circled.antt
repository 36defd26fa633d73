-- A class that is its own ancestor by the tables of a program.
use Rattle.std.proofs.Common.{◌≡◌, ℕ, ◌<◌, ◌^◌, List, map, length, Result, Err, ap, subst, ◌∙◌, arith}
use Rattle.std.specs.Prelude.{IfErr, slice_index_or}
use Rattle.program_model.specs.declared.program.Class.{Class}
use Rattle.program_model.specs.declared.program.Program.{Program}
use Rattle.hierarchy.specs.Circling.{IsFirst}
use Rattle.hierarchy.specs.Placing.{known_places}
use Rattle.hierarchy.specs.Shapes.{supers_by, lists_by}
use Rattle.hierarchy.proofs.Placed.{long_by}

pub circled : {V : Type 0} (p : Program) (table supers : List ℕ) (rows : List (List ℕ)) (classes : List Class) (r : Result V ℕ) (class : ℕ) → classes ≡ p.classes → supers ≡ map (λ c. slice_index_or table c.superclass 4294967295) classes → rows ≡ map (λ c. known_places table c.interfaces) classes → r ≡ Err class
    → (length supers < 2 ^ 32 → IfErr r (λ c. IsFirst supers rows c)) → length p.classes < 2 ^ 32 → IsFirst (supers_by table p) (lists_by table p) class
circled {V} p table supers rows classes r class same up list is h few =
    let ups : supers ≡ supers_by table p = up ∙ ap (map (λ c. slice_index_or table c.superclass 4294967295)) same in
    let lists : rows ≡ lists_by table p = list ∙ ap (map (λ c. known_places table c.interfaces)) same in
    let long : length supers ≡ length p.classes = ap length ups ∙ long_by p table in
    let f : IfErr r (λ c. IsFirst supers rows c) = h (omega (arith, few, long)) in
    let g : IsFirst supers rows class = subst (λ (x : Result V ℕ). IfErr x (λ c. IsFirst supers rows c)) is f in
    subst (λ l. IsFirst l (lists_by table p) class) ups (subst (λ l. IsFirst supers l class) lists g)
