-- An outside with another list of shut methods.
use Rattle.std.proofs.Common.{◌≡◌, ◌≤◌, ◌<◌, ℕ, zero, suc, List, [], ◌∷◌, ◌++◌, length, Bool, Result, Ok, Err, IfOk, refl, sym, ap, ◌∙◌, subst, arith, if◌then◌else◌}
use Rattle.std.specs.declared.alloc.AllocError.{AllocError}
use Rattle.program_model.specs.declared.pass.Outside.{Outside}
use Rattle.program_model.specs.declared.program.Program.{Program}
use Rattle.stub_library.specs.Marking.{is_on}
use Rattle.stub_library.specs.Shut.{passing_below, shut_number, IsNarrowed}
use Rattle.stub_library.specs.Narrowed.{numbers_of, AreNumbers, Narrows}
use Rattle.stub_library.specs.declared.library.Library.{Library}
use Rattle.stub_library.proofs.Numbers.{numbers_within}

pub narrowed : (p : Program) (o : Outside) (marks : List Bool) (size : ℕ) (shut : List ℕ) (r : Result Outside AllocError)
    → IfOk r (λ new. new ≡ record o { shut = shut }) → shut ≡ numbers_of marks size → size ≤ length p.methods → IfOk r (Narrows p o)
narrowed p o marks size shut (Ok new) e s le =
    let same : shut ≡ new.shut = sym (ap (λ n. n.shut) e) in
    record {
      rest = e ∙ ap (λ (xs : List ℕ). record o { shut = xs }) same;
      numbers = subst (λ (xs : List ℕ). AreNumbers (length p.methods) xs) same (numbers_within marks size (length p.methods) shut s le);
    }
narrowed p o marks size shut (Err x) e s le = tt

same_passing : (f g : ℕ → Bool) (n : ℕ) → ((k : ℕ) → f k ≡ g k) → passing_below f n ≡ passing_below g n
same_passing f g zero h = refl
same_passing f g (suc n) h = ap (λ xs. xs ++ (if f n then n ∷ [] else [])) (same_passing f g n h) ∙ ap (λ b. passing_below g n ++ (if b then n ∷ [] else [])) (h n)

pub narrowed_is : (p : Program) (o : Outside) (l : Library) (marks : List Bool) (size : ℕ) (shut : List ℕ) (r : Result Outside AllocError) → IfOk r (λ new. new ≡ record o { shut = shut })
    → shut ≡ numbers_of marks size → size ≡ length p.methods → ((n : ℕ) → is_on marks n ≡ shut_number p o l n) → IfOk r (IsNarrowed p o l)
narrowed_is p o l marks size shut (Ok new) e s long all =
    let same : shut ≡ new.shut = sym (ap (λ n. n.shut) e) in
    record {
      rest = e ∙ ap (λ (xs : List ℕ). record o { shut = xs }) same;
      shut = sym same ∙ s ∙ ap (numbers_of marks) long ∙ same_passing (is_on marks) (shut_number p o l) (length p.methods) all;
    }
narrowed_is p o l marks size shut (Err x) e s long all = tt
