-- Where no interface has code for a name and a proto, a class finds nothing that neither has nor inherits such a virtual method.
use Rattle.std.proofs.Common.{◌≡◌, ℕ, zero, suc, ◌<◌, Bool, true, false, nat_eq, List, [], ◌∷◌, ◌++◌, length, Option, Some, None, refl, sym, ap, ◌∙◌}
use Rattle.std.specs.Prelude.{◌&&◌, cond, filter, flat_map, not, slice_get}
use Rattle.std.specs.List.{list_any}
use Rattle.lemmas.proofs.Bools.{clash, untrue}
use Rattle.lemmas.proofs.Lists.{any_at, got_short}
use Rattle.program_model.specs.declared.program.Class.{Class}
use Rattle.program_model.specs.declared.program.MethodAt.{MethodAt}
use Rattle.program_model.specs.declared.program.Program.{Program}
use Rattle.program_model.specs.Lookups.{method_at}
use Rattle.class_defs.specs.Finding.{Nothing, candidates, candidates_from, finds_among, finds_at, finds_virtual, found_or, is_037, is_lowest, lowest, one_or_none, verdict, without_repeats}
use Rattle.class_defs.specs.Members.{has_code, is_common, is_interface, own_virtual}
use Rattle.class_defs.specs.Places.{chain_of, interface_places}
use Rattle.hierarchy.specs.Climbing.{In}
use Rattle.hierarchy.specs.Naming.{definers_of}
use Rattle.receivers.proofs.Owned.{defines}
use Rattle.receivers.proofs.Ranges.{in_at}
use Rattle.const_prop.specs.Defaults.{has_default, is_coded, is_default}

none_in : (t : ℕ → Bool) (xs : List ℕ) (c : ℕ) → In c xs → list_any t xs ≡ false → t c ≡ false
none_in t xs c i e = untrue (t c) (λ h. let k = in_at xs c i in clash (list_any t xs) (any_at t xs k.0 c k.1 h) e)

module _ (p : Program) where
  -- none of these has code
  abbrev Bare : List MethodAt → Type 0
  Bare [] = Unit {0}
  Bare (f ∷ fs) = (has_code (method_at p f) ≡ false) × Bare fs

  bare_both : (xs ys : List MethodAt) → Bare xs → Bare ys → Bare (xs ++ ys)
  bare_both [] ys b c = c
  bare_both (x ∷ xs) ys b c = (b.0, bare_both xs ys b.1 c)

  bare_filter : (t : MethodAt → Bool) (xs : List MethodAt) → Bare xs → Bare (filter t xs)
  bare_filter t [] b = tt
  bare_filter t (x ∷ xs) b = by (t x) (bare_filter t xs b.1)
    where
      by : (v : Bool) → Bare (filter t xs) → Bare (cond v (x ∷ filter t xs) (filter t xs))
      by true c = (b.0, c)
      by false c = c

  bare_once : (xs : List MethodAt) → Bare xs → Bare (without_repeats xs)
  bare_once [] b = tt
  bare_once (x ∷ xs) b = (b.0, bare_filter (λ g. not (nat_eq g.class x.class)) (without_repeats xs) (bare_once xs b.1))

  bare_flat : (f : ℕ → List MethodAt) (cs : List ℕ) → ((c : ℕ) → Bare (f c)) → Bare (flat_map f cs)
  bare_flat f [] h = tt
  bare_flat f (c ∷ cs) h = bare_both (f c) (flat_map f cs) (h c) (bare_flat f cs h)

  none_pass : (q : MethodAt → Bool) (xs : List MethodAt) → Bare xs → filter (λ f. has_code (method_at p f) && q f) xs ≡ []
  none_pass q [] b = refl
  none_pass q (x ∷ xs) b =
      ap (λ v. cond (v && q x) (x ∷ filter (λ f. has_code (method_at p f) && q f) xs) (filter (λ f. has_code (method_at p f) && q f) xs)) b.0 ∙ none_pass q xs b.1

  interface_there : (c : ℕ) → is_interface (slice_get p.classes c) ≡ true → c < length p.classes
  interface_there c i = by (slice_get p.classes c) refl
    where
      by : (o : Option Class) → slice_get p.classes c ≡ o → c < length p.classes
      by None e = clash (is_interface (slice_get p.classes c)) i (ap is_interface e)
      by (Some k) e = got_short p.classes c k e

  module _ (name proto : ℕ) (none : list_any (is_default p name proto) (definers_of p name proto) ≡ false) where
    own_bare : (c : ℕ) (at : MethodAt) → is_interface (slice_get p.classes c) ≡ true → own_virtual p name proto c ≡ Some at → has_code (method_at p at) ≡ false
    own_bare c at i e =
        sym (ap (λ b. b && is_coded p (own_virtual p name proto c)) i ∙ ap (is_coded p) e)
        ∙ none_in (is_default p name proto) (definers_of p name proto) c (defines p name proto c at (interface_there c i) e) none

    one_bare : (c : ℕ) → is_interface (slice_get p.classes c) ≡ true → (o : Option MethodAt) → own_virtual p name proto c ≡ o → Bare (one_or_none o)
    one_bare c i None e = tt
    one_bare c i (Some at) e = (own_bare c at i e, tt)

    abbrev given_by : ℕ → ℕ → Bool → List MethodAt
    given_by n c b = cond b (one_or_none (own_virtual p name proto c) ++ candidates_from n p name proto (interface_places p c)) []

    given_bare : (n c : ℕ) → Bare (candidates_from n p name proto (interface_places p c)) → (b : Bool) → is_interface (slice_get p.classes c) ≡ b → Bare (given_by n c b)
    given_bare n c above true i = bare_both (one_or_none (own_virtual p name proto c)) (candidates_from n p name proto (interface_places p c)) (one_bare c i (own_virtual p name proto c) refl) above
    given_bare n c above false i = tt

    from_bare : (n : ℕ) (cs : List ℕ) → Bare (candidates_from n p name proto cs)
    from_bare zero cs = tt
    from_bare (suc n) cs =
        bare_flat (λ c. given_by n c (is_interface (slice_get p.classes c))) cs (λ c. given_bare n c (from_bare n (interface_places p c)) (is_interface (slice_get p.classes c)) refl)

    all_bare : (cs : List ℕ) (b : Bool) → Bare (cond b (without_repeats (candidates_from (length p.classes) p name proto cs)) [])
    all_bare cs true = bare_once (candidates_from (length p.classes) p name proto cs) (from_bare (length p.classes) cs)
    all_bare cs false = tt

    -- candidates without code give nothing
    nothing_among : (cs : List ℕ) → finds_among p cs name proto ≡ Nothing
    nothing_among cs = ap verdict (none_pass (is_lowest p (candidates p cs name proto)) (candidates p cs name proto) (all_bare cs (is_037 p.version && not (is_common p name proto))))

  -- in version 035 there are no candidates
  nothing_early : (name proto : ℕ) (cs : List ℕ) → is_037 p.version ≡ false → finds_among p cs name proto ≡ Nothing
  nothing_early name proto cs e = ap (λ b. verdict (lowest p (cond (b && not (is_common p name proto)) (without_repeats (candidates_from (length p.classes) p name proto cs)) []))) e

  pub finds_nothing : (name proto class : ℕ) → has_default p name proto ≡ false → finds_virtual p name proto class ≡ None → finds_at p class name proto ≡ Nothing
  finds_nothing name proto class h e = ap (λ o. found_or o (finds_among p above name proto)) e ∙ by (is_037 p.version) refl
    where
      above : List ℕ
      above = flat_map (interface_places p) (chain_of p (Some class))

      by : (b : Bool) → is_037 p.version ≡ b → finds_among p above name proto ≡ Nothing
      by true i = nothing_among name proto (sym (ap (λ b. b && list_any (is_default p name proto) (definers_of p name proto)) i) ∙ h) above
      by false i = nothing_early name proto above i
