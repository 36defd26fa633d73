-- Where classes agree on one method, each of them finds it.
use Rattle.std.proofs.Common.{◌≡◌, ℕ, Bool, true, false, true≢false, nat_eq, List, [], ◌∷◌, Option, Some, None, refl, sym, ap, ap₂, ◌∙◌, eqb-true}
use Rattle.std.specs.Prelude.{◌&&◌, cond, Contains}
use Rattle.lemmas.proofs.Bools.{and_left, and_right, and_both}
use Rattle.lemmas.proofs.Lists.{all_in}
use Rattle.lemmas.proofs.Numbers.{same_number}
use Rattle.lemmas.proofs.Options.{none_some, some_same}
use Rattle.program_model.specs.declared.pools.MethodName.{MethodName}
use Rattle.program_model.specs.declared.program.MethodAt.{MethodAt}
use Rattle.program_model.specs.declared.program.Program.{Program}
use Rattle.receivers.specs.Receiving.{agreed, agreed_on, all_find, found_by, is_at}

cond_true : {A : Type 0} (b : Bool) (o : Option A) (y : A) → cond b o None ≡ Some y → b ≡ true
cond_true true o y e = refl
cond_true false o y e = none_some y e

cond_some : {A : Type 0} (b : Bool) (o : Option A) (y : A) → cond b o None ≡ Some y → o ≡ Some y
cond_some true o y e = e
cond_some false o y e = none_some y e

same_at : (at : MethodAt) (o : Option MethodAt) → is_at at o ≡ true → o ≡ Some at
same_at at None e = absurd (true≢false (sym e))
same_at at (Some x) e =
    let c : x.class ≡ at.class = eqb-true x.class at.class (and_left (nat_eq x.class at.class) (nat_eq x.place at.place) e) in
    let n : x.place ≡ at.place = eqb-true x.place at.place (and_right (nat_eq x.class at.class) (nat_eq x.place at.place) e) in
    ap₂ (λ c n. Some (record { class = c; place = n })) c n

module _ (p : Program) (q : MethodName) where
  pub all_agree : (cs : List ℕ) (at : MethodAt) → agreed p q cs ≡ Some at → (c : ℕ) → Contains cs c → found_by p q c ≡ Some at
  all_agree [] at e = none_some at e
  all_agree (c ∷ cs) at e = by (found_by p q c) refl e
    where
      by : (o : Option MethodAt) → found_by p q c ≡ o → agreed_on p q cs o ≡ Some at → (d : ℕ) → Contains (c ∷ cs) d → found_by p q d ≡ Some at
      by None i f = none_some at f
      by (Some x) i f =
          let same : x ≡ at = some_same x at (cond_some (all_find p q x cs) (Some x) at f) in
          let first : found_by p q c ≡ Some at = i ∙ ap Some same in
          let rest : all_find p q at cs ≡ true = ap (λ y. all_find p q y cs) (sym same) ∙ cond_true (all_find p q x cs) (Some x) at f in
          all_in_both first rest
        where
          first_test : found_by p q c ≡ Some at → is_at at (found_by p q c) ≡ true
          first_test g = ap (is_at at) g ∙ and_both (nat_eq at.class at.class) (nat_eq at.place at.place) (same_number at.class) (same_number at.place)

          all_in_both : found_by p q c ≡ Some at → all_find p q at cs ≡ true → (d : ℕ) → Contains (c ∷ cs) d → found_by p q d ≡ Some at
          all_in_both g h d i = same_at at (found_by p q d) (all_in (λ d. is_at at (found_by p q d)) (c ∷ cs) d i (and_both (is_at at (found_by p q c)) (all_find p q at cs) (first_test g) h))
