-- What the marks of shut methods are, from what the parts of narrowing do.
use Rattle.std.proofs.Common.{◌≡◌, ℕ, ◌+◌, Bool, true, false, List, length, replicate, Result, Ok, Err, IfOk, sym, ap, subst, ◌∙◌}
use Rattle.std.specs.Prelude.{flat_map}
use Rattle.program_model.specs.declared.pass.Outside.{Outside}
use Rattle.program_model.specs.declared.program.Program.{Program}
use Rattle.program_model.specs.ProgramRules.{is_well_formed}
use Rattle.hierarchy.specs.Shapes.{IsResolved}
use Rattle.hierarchy.specs.declared.build.Hierarchy.{Hierarchy}
use Rattle.stub_library.specs.Marking.{is_on, set_all, entered, all_pairs, rounds}
use Rattle.stub_library.specs.Loosening.{loose_numbers}
use Rattle.stub_library.specs.Calling.{AreCalled}
use Rattle.stub_library.specs.Meeting.{AreMet}
use Rattle.stub_library.specs.Shut.{shut_number}
use Rattle.stub_library.specs.declared.library.Library.{Library}
use Rattle.stub_library.proofs.Shutting.{all_marks}

-- the marks after all rounds are those of the shut methods
pub rounds_are : (p : Program) → is_well_formed p ≡ true → (h : Hierarchy) → IsResolved p h → (o : Outside) (l : Library) (called opens : List Bool) (rows : List (List ℕ)) → AreCalled p h called → AreMet p l opens rows
    → (kept left : List Bool) (ps : List (ℕ × ℕ)) → kept ≡ set_all true (replicate (length p.methods) false) o.methods
    → left ≡ entered p kept opens rows (set_all true (replicate (length p.methods) false) (flat_map (loose_numbers p h kept called) p.classes)) → ps ≡ all_pairs p kept left
    → (n : ℕ) → is_on (rounds left ps (length p.classes + 1)) n ≡ shut_number p o l n
rounds_are p wf h is o l called opens rows calls met kept left ps kept_is left_is pairs_are n =
    let K = set_all true (replicate (length p.methods) false) o.methods in
    let loose = λ (k : List Bool). set_all true (replicate (length p.methods) false) (flat_map (loose_numbers p h k called) p.classes) in
    let left_of = λ (k : List Bool). entered p k opens rows (loose k) in
    let made : left ≡ left_of K = left_is ∙ ap left_of kept_is in
    let together : ps ≡ all_pairs p K (left_of K) = pairs_are ∙ ap (λ k. all_pairs p k left) kept_is ∙ ap (all_pairs p K) made in
    ap (λ m. is_on (rounds m ps (length p.classes + 1)) n) made ∙ ap (λ q. is_on (rounds (left_of K) q (length p.classes + 1)) n) together
    ∙ all_marks p wf h is o l called opens rows calls met n

-- so the answer of the rounds has them
pub marks_are : {X E : Type 0} (items : X → List Bool) (r : Result X E) (left : List Bool) (ps : List (ℕ × ℕ)) (most : ℕ) (test : ℕ → Bool) → IfOk r (λ x. items x ≡ rounds left ps most)
    → ((n : ℕ) → is_on (rounds left ps most) n ≡ test n) → IfOk r (λ x. (n : ℕ) → is_on (items x) n ≡ test n)
marks_are items (Ok x) left ps most test made all = λ n. ap (λ ms. is_on ms n) made ∙ all n
marks_are items (Err e) left ps most test made all = tt
