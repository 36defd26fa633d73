-- What may be chosen at a position, and what is chosen, position by position.
use Rattle.std.proofs.Common.{◌≡◌, ℕ, zero, suc, ◌+◌, ◌<◌, ◌≤◌, true, false, List, [], ◌∷◌, ◌++◌, length, get_or, refl, sym, ap, ◌∙◌, subst, arith, ◌⊎◌, inl, inr, Option, Some, None, slice_get}
use Rattle.std.proofs.lemmas.Bool.{cases_eq}
use Rattle.std.proofs.lemmas.List.{length_push, get_or_append_left}
use Rattle.std.proofs.Math.Seq.{get_or-append_seam}
use Rattle.insn_set.specs.declared.form.Insn.{Insn}
use Rattle.hierarchy.specs.Shapes.{IsOf}
use Rattle.program_model.specs.Lookups.{method_at}
use Rattle.program_model.specs.declared.body.Body.{Body}
use Rattle.program_model.specs.declared.program.Method.{Method}
use Rattle.program_model.specs.declared.program.MethodAt.{MethodAt}
use Rattle.splice.specs.Callees.{chosen_at}
use Rattle.splice.specs.declared.callee.Callee.{Callee}
use Rattle.inline_calls.specs.declared.site.Known.{Known}
use Rattle.inline_calls.specs.declared.site.Caller.{Caller}
use Rattle.inline_calls.specs.Candidates.{found_by, is_suited, is_agreeing, EntersAtOnce, IsWith, IsCandidate, IsUnsuited}

-- ---- no candidate

module _ (k : Known) (c : Caller) (n : ℕ) where
  pub no_insn : slice_get c.body.now.insns n ≡ None → IsUnsuited k c n
  no_insn e of y is = absurd (cc (e, is.here))

  module _ (insn : Insn) (here : slice_get c.body.now.insns n ≡ Some insn) where
    same_insn : (y : Callee) (is : IsCandidate k c n y) → is.insn ≡ insn
    same_insn y is = cc (here, is.here)

    pub not_found : (r : Option MethodAt) → (IsOf k.program.now k.hierarchy.now → r ≡ found_by k.program.now insn) → r ≡ None → IsUnsuited k c n
    not_found r finds none of y is =
        let e : Some is.place ≡ None = sym (is.finds of) ∙ ap (found_by k.program.now) (same_insn y is) ∙ sym (finds of) ∙ none in
        absurd (cc e)

    module _ (r : Option MethodAt) (place : MethodAt) (finds : IsOf k.program.now k.hierarchy.now → r ≡ found_by k.program.now insn) (found : r ≡ Some place) where
      same_place : (y : Callee) (is : IsCandidate k c n y) → IsOf k.program.now k.hierarchy.now → is.place ≡ place
      same_place y is of =
          let e : Some is.place ≡ Some place = sym (is.finds of) ∙ ap (found_by k.program.now) (same_insn y is) ∙ sym (finds of) ∙ found in
          cc e

      pub not_coded : ((y : Callee) → method_at k.program.now place ≡ Some y.method.now → y.method.now.body ≡ Some y.body.now → ⊥) → IsUnsuited k c n
      not_coded none of y is = none y (ap (method_at k.program.now) (sym (same_place y is of)) ∙ is.method) is.code

      module _ (x : Callee) (method : method_at k.program.now place ≡ Some x.method.now) (code : x.method.now.body ≡ Some x.body.now) where
        same_method : (y : Callee) (is : IsCandidate k c n y) → IsOf k.program.now k.hierarchy.now → y.method.now ≡ x.method.now
        same_method y is of =
            let e : Some y.method.now ≡ Some x.method.now = sym is.method ∙ ap (method_at k.program.now) (same_place y is of) ∙ method in
            cc e

        same_body : (y : Callee) (is : IsCandidate k c n y) → IsOf k.program.now k.hierarchy.now → y.body.now ≡ x.body.now
        same_body y is of =
            let e : Some y.body.now ≡ Some x.body.now = sym is.code ∙ ap (λ (m : Method). m.body) (same_method y is of) ∙ code in
            cc e

        pub not_suited : is_suited k.program.now c n place x.method.now x.body.now ≡ false → IsUnsuited k c n
        not_suited none of y is =
            let e : is_suited k.program.now c n is.place y.method.now y.body.now ≡ is_suited k.program.now c n place x.method.now x.body.now =
            ap (λ (at : MethodAt). is_suited k.program.now c n at y.method.now y.body.now) (same_place y is of)
            ∙ ap (λ (m : Method). is_suited k.program.now c n place m y.body.now) (same_method y is of)
            ∙ ap (λ (b : Body). is_suited k.program.now c n place x.method.now b) (same_body y is of) in
            let f : true ≡ false = sym is.suited ∙ e ∙ none in
            absurd (cc f)

        pub not_agreeing : is_agreeing k.program.now c.body.now n insn x.method.now ≡ false → IsUnsuited k c n
        not_agreeing none of y is =
            let e : is_agreeing k.program.now c.body.now n is.insn y.method.now ≡ is_agreeing k.program.now c.body.now n insn x.method.now =
            ap (λ (i : Insn). is_agreeing k.program.now c.body.now n i y.method.now) (same_insn y is)
            ∙ ap (λ (m : Method). is_agreeing k.program.now c.body.now n insn m) (same_method y is of) in
            let f : true ≡ false = sym is.agrees ∙ e ∙ none in
            absurd (cc f)

        pub not_entered : (EntersAtOnce k c.method.now n insn x.method.now place.class → ⊥) → IsUnsuited k c n
        not_entered late of y is =
            late (subst (λ (i : Insn). EntersAtOnce k c.method.now n i x.method.now place.class) (same_insn y is)
            (subst (λ (at : MethodAt). EntersAtOnce k c.method.now n is.insn x.method.now at.class) (same_place y is of)
            (subst (λ (m : Method). EntersAtOnce k c.method.now n is.insn m is.place.class) (same_method y is of) is.enters)))

        pub is_candidate : is_suited k.program.now c n place x.method.now x.body.now ≡ true → is_agreeing k.program.now c.body.now n insn x.method.now ≡ true → EntersAtOnce k c.method.now n insn x.method.now place.class → IsCandidate k c n x
        is_candidate suited agrees enters = record {
          insn = insn;
          here = here;
          place = place;
          finds = λ of. sym (finds of) ∙ found;
          method = method;
          code = code;
          suited = suited;
          agrees = agrees;
          enters = enters;
        }

-- ---- what is chosen

-- the item pushed, and those before it
last : {A : Type 0} (xs : List A) (i : ℕ) (x d : A) → length xs ≡ i → get_or (xs ++ x ∷ []) i d ≡ x
last xs i x d e = ap (λ k. get_or (xs ++ x ∷ []) k d) (sym e) ∙ get_or-append_seam xs x [] d

pub one_chosen : (old new next : List (Option Callee)) (i : ℕ) (x : Option Callee) → length new ≡ i → ((k : ℕ) → k < i → chosen_at new k ≡ chosen_at old k)
    → x ≡ chosen_at old i → next ≡ new ++ x ∷ [] → (k : ℕ) → k < i + 1 → chosen_at next k ≡ chosen_at old k
one_chosen old new next i x long same is e k lt = ap (λ l. chosen_at l k) e ∙ at (cases_eq k i)
  where
    at : (k ≡ i) ⊎ (k ≡ i → ⊥) → chosen_at (new ++ x ∷ []) k ≡ chosen_at old k
    at (inl s) = ap (chosen_at (new ++ x ∷ [])) s ∙ last new i x None long ∙ is ∙ ap (chosen_at old) (sym s)
    at (inr ne) = get_or_append_left new (x ∷ []) None k (omega (arith, long)) ∙ same k (omega arith)

pub with_last : (old new next : List (Option Callee)) (i : ℕ) (y : Callee) → length new ≡ i → ((k : ℕ) → k < i → chosen_at new k ≡ chosen_at old k)
    → next ≡ new ++ Some y ∷ [] → IsWith old i y next
with_last old new next i y long same e = record {
  long = ap length e ∙ length_push new (Some y) ∙ ap (λ n. n + 1) long;
  before = λ k lt. ap (λ l. chosen_at l k) e ∙ get_or_append_left new (Some y ∷ []) None k (omega (arith, long, lt)) ∙ same k lt;
  here = ap (λ l. chosen_at l i) e ∙ last new i (Some y) None long;
}
