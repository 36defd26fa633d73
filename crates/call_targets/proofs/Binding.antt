-- What a call finds, case by case.
use Rattle.std.proofs.Common.{◌≡◌, ◌∙◌, ℕ, zero, suc, true, false, List, [], ◌∷◌, length, refl, sym, ap, Option, Some, None}
use Rattle.std.specs.Prelude.{cond, ◌&&◌, not, slice_get, flat_map}
use Rattle.program_model.specs.declared.pools.MethodName.{MethodName}
use Rattle.program_model.specs.declared.program.MethodAt.{MethodAt}
use Rattle.program_model.specs.declared.program.Program.{Program}
use Rattle.program_model.specs.declared.program.Version.TheVariants.{V035, V037}
use Rattle.program_model.specs.Lookups.{class_place}
use Rattle.class_defs.specs.Members.{is_common, is_interface, own_method}
use Rattle.class_defs.specs.Places.{super_place, interface_places, chain_from, chain_of}
use Rattle.class_defs.specs.Finding.{Search, search_of, first_among, finds_from, finds_virtual, is_037, without_repeats, candidates_from, lowest, verdict, finds_among, found_or, finds_at, lists_interface, finds_above, finds_super_037, finds_super_of, finds_super}
use Rattle.class_defs.specs.Finding as look
use Rattle.call_targets.specs.declared.bound.Target.{Target}
use Rattle.call_targets.specs.declared.bound.Target.TheVariants as target
use Rattle.call_targets.specs.Bound.{target_of, target_found}

pub search_target : (o : Option MethodAt) → target_of o ≡ target_found (search_of o)
search_target None = refl
search_target (Some at) = refl

-- ---- on an object

pub on_virtual : (p : Program) (c name proto : ℕ) (at : MethodAt) → finds_virtual p name proto c ≡ Some at → target.One at ≡ target_found (finds_at p c name proto)
on_virtual p c name proto at e = sym (ap (λ o. target_found (found_or o (finds_among p (flat_map (interface_places p) (chain_of p (Some c))) name proto))) e)

pub on_lists : (p : Program) (c name proto : ℕ) (t : Target) → finds_virtual p name proto c ≡ None → t ≡ target_found (finds_among p (flat_map (interface_places p) (chain_of p (Some c))) name proto) → t ≡ target_found (finds_at p c name proto)
on_lists p c name proto t e f = f ∙ sym (ap (λ o. target_found (found_or o (finds_among p (flat_map (interface_places p) (chain_of p (Some c))) name proto))) e)

-- in version 035 interfaces give nothing
among_old : (p : Program) (cs : List ℕ) (name proto : ℕ) → p.version ≡ V035 → finds_among p cs name proto ≡ look.Nothing
among_old p cs name proto e = ap (λ v. verdict (lowest p (cond (is_037 v && not (is_common p name proto)) (without_repeats (candidates_from (length p.classes) p name proto cs)) []))) e

pub on_old : (p : Program) (c name proto : ℕ) → finds_virtual p name proto c ≡ None → p.version ≡ V035 → target.Nothing ≡ target_found (finds_at p c name proto)
on_old p c name proto e old = on_lists p c name proto target.Nothing e (sym (ap target_found (among_old p (flat_map (interface_places p) (chain_of p (Some c))) name proto old)))

-- ---- above a class

pub above_some : (p : Program) (caller name proto above : ℕ) (r : Option MethodAt) → super_place p caller ≡ Some above → r ≡ finds_from p name proto (Some above) → target_of r ≡ target_found (search_of (finds_from p name proto (super_place p caller)))
above_some p caller name proto above r e f = search_target r ∙ ap (λ o. target_found (search_of o)) (f ∙ ap (finds_from p name proto) (sym e))

chain_none : (up : ℕ → Option ℕ) (n : ℕ) → chain_from up n None ≡ []
chain_none up zero = refl
chain_none up (suc n) = refl

pub above_none : (p : Program) (caller name proto : ℕ) → super_place p caller ≡ None → target.Nothing ≡ target_found (search_of (finds_from p name proto (super_place p caller)))
above_none p caller name proto e = sym (ap (λ o. target_found (search_of (finds_from p name proto o))) e ∙ ap (λ cs. target_found (search_of (first_among (own_method p name proto) cs))) (chain_none (super_place p) (length p.classes)))

-- ---- super calls of version 037, by the class that is named

module _ (p : Program) (caller : ℕ) (q : MethodName) (kind : ℕ) (t : Target) where
  pub of_interface : (c : ℕ) → class_place p kind ≡ Some c → is_interface (slice_get p.classes c) ≡ true → t ≡ target_found (finds_among p (c ∷ []) q.name q.proto) → t ≡ target_found (finds_super_037 p caller q (class_place p kind))
  of_interface c e i f = f ∙ sym (ap (λ o. target_found (finds_super_037 p caller q o)) e ∙ ap (λ b. target_found (cond b (finds_among p (c ∷ []) q.name q.proto) (finds_above p caller q))) i)

  pub of_class : (c : ℕ) → class_place p kind ≡ Some c → is_interface (slice_get p.classes c) ≡ false → t ≡ target_found (finds_above p caller q) → t ≡ target_found (finds_super_037 p caller q (class_place p kind))
  of_class c e i f = f ∙ sym (ap (λ o. target_found (finds_super_037 p caller q o)) e ∙ ap (λ b. target_found (cond b (finds_among p (c ∷ []) q.name q.proto) (finds_above p caller q))) i)

  pub of_listed : class_place p kind ≡ None → q.class ≡ kind → lists_interface p caller kind ≡ true → t ≡ target.Nothing → t ≡ target_found (finds_super_037 p caller q (class_place p kind))
  of_listed e s l f = f ∙ sym (ap (λ o. target_found (finds_super_037 p caller q o)) e ∙ ap (λ b. target_found (cond b look.Nothing (finds_above p caller q))) (ap (lists_interface p caller) s ∙ l))

  pub of_outer : class_place p kind ≡ None → q.class ≡ kind → lists_interface p caller kind ≡ false → t ≡ target_found (finds_above p caller q) → t ≡ target_found (finds_super_037 p caller q (class_place p kind))
  of_outer e s l f = f ∙ sym (ap (λ o. target_found (finds_super_037 p caller q o)) e ∙ ap (λ b. target_found (cond b look.Nothing (finds_above p caller q))) (ap (lists_interface p caller) s ∙ l))

-- ---- super calls

module _ (p : Program) (caller method : ℕ) (t : Target) where
  pub super_none : slice_get p.methods method ≡ None → t ≡ target.Nothing → t ≡ target_found (finds_super p caller method)
  super_none e f = f ∙ sym (ap (λ o. target_found (finds_super_of p caller o)) e)

  pub super_old : (q : MethodName) → slice_get p.methods method ≡ Some q → p.version ≡ V035 → t ≡ target_found (finds_above p caller q) → t ≡ target_found (finds_super p caller method)
  super_old q e v f = f ∙ sym (ap (λ o. target_found (finds_super_of p caller o)) e ∙ ap (λ x. target_found (cond (is_037 x) (finds_super_037 p caller q (class_place p q.class)) (finds_above p caller q))) v)

  pub super_new : (q : MethodName) → slice_get p.methods method ≡ Some q → p.version ≡ V037 → t ≡ target_found (finds_super_037 p caller q (class_place p q.class)) → t ≡ target_found (finds_super p caller method)
  super_new q e v f = f ∙ sym (ap (λ o. target_found (finds_super_of p caller o)) e ∙ ap (λ x. target_found (cond (is_037 x) (finds_super_037 p caller q (class_place p q.class)) (finds_above p caller q))) v)
