-- What a look-up of a bound call answers by number is a method that there is.
use Rattle.std.proofs.Common.{◌≡◌, ℕ, ◌<◌, Bool, true, false, List, [], ◌∷◌, length, Option, Some, None, refl, sym, ap, ◌∙◌, subst, lt-ltb}
use Rattle.std.specs.Prelude.{◌&&◌, cond, map, slice_get}
use Rattle.std.specs.List.{list_all}
use Rattle.insn_set.specs.declared.ops.InvokeKind.{InvokeKind}
use Rattle.insn_set.specs.declared.ops.InvokeKind.TheVariants as call
use Rattle.program_model.specs.Lookups.{class_place, method_at}
use Rattle.program_model.specs.Texts.{has_type}
use Rattle.program_model.specs.declared.pools.MethodName.{MethodName}
use Rattle.program_model.specs.declared.program.MethodAt.{MethodAt}
use Rattle.program_model.specs.declared.program.Program.{Program}
use Rattle.class_defs.specs.ClassGraph.{IsTwice}
use Rattle.class_defs.specs.Finding.{Search, by_entry, candidates, finds_above, finds_among, finds_from, finds_super_037, finds_super_of, is_037, is_lowest, lists_interface, lowest, search_of, verdict}
use Rattle.class_defs.specs.Members.{has_code, is_interface, own_method}
use Rattle.class_defs.specs.Places.{chain_of, placed, super_place}
use Rattle.class_defs.proofs.Positions.{entry_at}
use Rattle.class_defs.proofs.WellFormed.{Sound}
use Rattle.dalvik_defs.specs.Find as find
use Rattle.dalvik_defs.specs.Find.{Found}
use Rattle.dalvik_defs.specs.Naming.{named, signature_at, text_at, type_at}
use Rattle.name_bridge.proofs.Candidates.{Names, candidates_by_number}
use Rattle.name_bridge.proofs.Found.{IsThere, found_parts, first_there, own_answers}
use Rattle.name_bridge.proofs.Tables.{method_class, method_name, method_proto}
use Rattle.removal_law.proofs.Lists.{In, here, there}
use Rattle.removal_law.proofs.Finds.{in_unfiltered}
use Rattle.closed_facts.specs.Found.{finds_bound}

-- ---- searches by number

nothing_finds : {A : Type 0} (x : MethodAt) → Search.Nothing ≡ Search.Finds x → A
nothing_finds x e = absurd (cc)

clash_finds : {A : Type 0} (x : MethodAt) → Search.Clash ≡ Search.Finds x → A
clash_finds x e = absurd (cc)

some_finds : (o : Option MethodAt) (x : MethodAt) → search_of o ≡ Search.Finds x → o ≡ Some x
some_finds None x e = nothing_finds x e
some_finds (Some y) x e = let same : y ≡ x = cc in ap Some same

verdict_in : (ms : List MethodAt) (x : MethodAt) → verdict ms ≡ Search.Finds x → In x ms
verdict_in [] x e = nothing_finds x e
verdict_in (y ∷ []) x e = let same : y ≡ x = cc in subst (λ z. In z (y ∷ [])) same (here [])
verdict_in (y ∷ z ∷ ms) x e = clash_finds x e

types_one : (p : Program) (k : ℕ) → k < length p.types → list_all (has_type p) (k ∷ []) ≡ true
types_one p k h = ap (λ b. b && true) (lt-ltb k (length p.types) h)

-- a method of a list with names is there
named_there : (p : Program) (ms : List MethodAt) (fs : List Found) → Names p ms fs → (x : MethodAt) → In x ms → IsThere p x
named_there p [] fs h x i = elim i [ ]
named_there p (a ∷ ms) [] h x i = absurd h
named_there p (a ∷ ms) (f ∷ fs) h x (here ys) = (found_parts p a f h.0).there
named_there p (a ∷ ms) (f ∷ fs) h x (there z ys i) = named_there p ms fs h.1 x i

module _ (p : Program) (s : Sound p) (once : (class : ℕ) → IsTwice p class → ⊥) where
  -- the first along a class and its superclasses
  from_there : (name proto : ℕ) (o : Option ℕ) (x : MethodAt) → name < length p.strings → proto < length p.protos → search_of (finds_from p name proto o) ≡ Search.Finds x → IsThere p x
  from_there name proto o x hn hq e = first_there p (own_method p name proto) ((own_answers p s name proto hn hq).there) (chain_of p o) x (some_finds (finds_from p name proto o) x e)

  -- what the candidates of an interface give
  among_there : (q : MethodName) (c : ℕ) (x : MethodAt) → q.class < length p.types → q.name < length p.strings → q.proto < length p.protos → class_place p q.class ≡ Some c
      → finds_among p (c ∷ []) q.name q.proto ≡ Search.Finds x → IsThere p x
  among_there q c x hc hn hq at e =
      let ms = candidates p (c ∷ []) q.name q.proto in
      let names = subst (λ l. Names p (candidates p l q.name q.proto) (find.candidates (named p) (map (type_at p) (q.class ∷ [])) (text_at p q.name) (signature_at p q.proto))) (ap (λ o. placed o []) at)
      (candidates_by_number p s q.name q.proto hn hq once (q.class ∷ []) (types_one p q.class hc)) in
      named_there p ms (find.candidates (named p) (map (type_at p) (q.class ∷ [])) (text_at p q.name) (signature_at p q.proto)) names x
      (in_unfiltered (λ f. has_code (method_at p f) && is_lowest p ms f) x ms (verdict_in (lowest p ms) x e))

  -- a super call
  super_there : (class : ℕ) (q : MethodName) (x : MethodAt) → q.class < length p.types → q.name < length p.strings → q.proto < length p.protos → finds_super_of p class (Some q) ≡ Search.Finds x → IsThere p x
  super_there class q x hc hn hq e = by (is_037 p.version) e
    where
      above : finds_above p class q ≡ Search.Finds x → IsThere p x
      above h = from_there q.name q.proto (super_place p class) x hn hq h

      by_flag : (c : ℕ) → class_place p q.class ≡ Some c → (b : Bool) → cond b (finds_among p (c ∷ []) q.name q.proto) (finds_above p class q) ≡ Search.Finds x → IsThere p x
      by_flag c at true h = among_there q c x hc hn hq at h
      by_flag c at false h = above h

      by_lists : (b : Bool) → cond b Search.Nothing (finds_above p class q) ≡ Search.Finds x → IsThere p x
      by_lists true h = nothing_finds x h
      by_lists false h = above h

      by_place : (o : Option ℕ) → class_place p q.class ≡ o → finds_super_037 p class q o ≡ Search.Finds x → IsThere p x
      by_place None at h = by_lists (lists_interface p class q.class) h
      by_place (Some c) at h = by_flag c at (is_interface (slice_get p.classes c)) h

      by : (b : Bool) → cond b (finds_super_037 p class q (class_place p q.class)) (finds_above p class q) ≡ Search.Finds x → IsThere p x
      by true h = by_place (class_place p q.class) refl h
      by false h = above h

  pub bound_there : (class method : ℕ) (kind : InvokeKind) (x : MethodAt) → method < length p.methods → finds_bound p class method kind ≡ Search.Finds x → IsThere p x
  bound_there class method kind x low e = by kind e
    where
      q : (q : MethodName) × (slice_get p.methods method ≡ Some q)
      q = entry_at p.methods method low

      static : finds_bound p class method call.Static ≡ Search.Finds x → IsThere p x
      static h = from_there q.0.name q.0.proto (class_place p q.0.class) x (method_name p s method q.0 q.1) (method_proto p s method q.0 q.1)
          (sym (ap (λ o. search_of (by_entry (λ q. finds_from p q.name q.proto (class_place p q.class)) o)) q.1) ∙ h)

      by : (kind : InvokeKind) → finds_bound p class method kind ≡ Search.Finds x → IsThere p x
      by call.Static h = static h
      by call.Direct h = static h
      by call.Super h = super_there class q.0 x (method_class p s method q.0 q.1) (method_name p s method q.0 q.1) (method_proto p s method q.0 q.1) (sym (ap (finds_super_of p class) q.1) ∙ h)
      by call.Virtual h = nothing_finds x h
      by call.Interface h = nothing_finds x h
