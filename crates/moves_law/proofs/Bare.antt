-- What a call weighs depends on the heads of classes and methods alone, so not on any body.
use Rattle.std.proofs.Common.{◌≡◌, ℕ, zero, suc, ◌+◌, Bool, true, false, List, [], ◌∷◌, length, map, Option, Some, None, refl, sym, ap, ◌∙◌}
use Rattle.std.specs.Prelude.{◌||◌, not, nat_eq, position, slice_get, option_and_then, is_some, filter, cond, if◌then◌else◌}
use Rattle.std.specs.List.{list_any, range_with_len}
use Rattle.std.specs.Option.{option_map}
use Rattle.std.proofs.lemmas.List.{length-map}
use Rattle.std.proofs.lemmas.Option.{slice_get-map}
use Rattle.insn_set.specs.declared.ops.InvokeKind.{InvokeKind}
use Rattle.program_model.specs.declared.body.Body.{Body}
use Rattle.program_model.specs.declared.pools.MethodName.{MethodName}
use Rattle.program_model.specs.declared.program.Class.{Class}
use Rattle.program_model.specs.declared.program.Method.{Method}
use Rattle.program_model.specs.declared.program.MethodAt.{MethodAt}
use Rattle.program_model.specs.declared.program.Program.{Program}
use Rattle.program_model.specs.Lookups.{class_place, method_at}
use Rattle.program_model.specs.MemberRules.{is_direct}
use Rattle.class_defs.proofs.Positions.{position_step}
use Rattle.class_defs.specs.Members.{is_method, method_of_class, own_method, is_virtual, virtual_only, own_virtual, has_code, is_interface}
use Rattle.class_defs.specs.Places.{super_place, placed, places_of, listed, interface_places, above_places, walks, is_under}
use Rattle.devirt.specs.Measure.{is_virtual_call, is_coded, codes_own, names_code, is_interface_place, names_interface, is_interface_call, bound_of, count_under, weight_named, call_weight}

pub no_body : Body
no_body = record { registers = 0; ins = 0; insns = []; regions = [] }

abbrev pub bare_code : Option Body → Option Body
bare_code None = None
bare_code (Some b) = Some no_body

-- a method whose code says nothing, and classes of such
abbrev pub bare_method : Method → Method
bare_method m = record m { body = bare_code m.body }

abbrev pub bare_class : Class → Class
bare_class c = record c { methods = map bare_method c.methods }

abbrev pub bare : Program → Program
bare p = record p { classes = map bare_class p.classes }

position_map : {A B : Type 0} (g : A → B) (t : B → Bool) (u : A → Bool) (xs : List A) → ((x : A) → t (g x) ≡ u x) → position t (map g xs) ≡ position u xs
position_map g t u [] h = refl
position_map g t u (x ∷ xs) h =
    position_step t (g x) (map g xs)
    ∙ ap (λ b. cond b (Some 0) (option_map suc (position t (map g xs)))) (h x)
    ∙ ap (λ o. cond (u x) (Some 0) (option_map suc o)) (position_map g t u xs h)
    ∙ sym (position_step u x xs)

any_same : (f g : ℕ → Bool) → ((x : ℕ) → f x ≡ g x) → (xs : List ℕ) → list_any f xs ≡ list_any g xs
any_same f g h [] = refl
any_same f g h (x ∷ xs) = ap (λ b. b || list_any f xs) (h x) ∙ ap (λ b. g x || b) (any_same f g h xs)

filter_same : (f g : ℕ → Bool) → ((x : ℕ) → f x ≡ g x) → (xs : List ℕ) → filter f xs ≡ filter g xs
filter_same f g h [] = refl
filter_same f g h (x ∷ xs) = ap (λ b. if b then x ∷ filter f xs else filter f xs) (h x) ∙ ap (λ ys. if g x then x ∷ ys else ys) (filter_same f g h xs)

walks_same : (f g : ℕ → List ℕ) → ((x : ℕ) → f x ≡ g x) → (n c d : ℕ) → walks f n c d ≡ walks g n c d
walks_same f g h zero c d = refl
walks_same f g h (suc n) c d = ap (λ b. cond (nat_eq c d) true b)
    (ap (λ us. list_any (λ u. walks f n u d) us) (h c) ∙ any_same (λ u. walks f n u d) (λ u. walks g n u d) (λ u. walks_same f g h n u d) (g c))

module _ (p : Program) where
  class_at : (c : ℕ) → slice_get (bare p).classes c ≡ option_map bare_class (slice_get p.classes c)
  class_at c = slice_get-map bare_class p.classes c

  place_same : (k : ℕ) → class_place (bare p) k ≡ class_place p k
  place_same k = position_map bare_class (λ c. nat_eq c.name k) (λ c. nat_eq c.name k) p.classes (λ c. refl)

  size_same : length (bare p).classes ≡ length p.classes
  size_same = length-map p.classes bare_class

  -- ---- what stands above a class

  super_same : (c : ℕ) → super_place (bare p) c ≡ super_place p c
  super_same c = ap (option_and_then (λ k. class_place (bare p) k.superclass)) (class_at c) ∙ by (slice_get p.classes c)
    where
      by : (o : Option Class) → option_and_then (λ (k : Class). class_place (bare p) k.superclass) (option_map bare_class o) ≡ option_and_then (λ (k : Class). class_place p k.superclass) o
      by None = refl
      by (Some k) = place_same k.superclass

  places_same : (ks : List ℕ) → places_of (bare p) ks ≡ places_of p ks
  places_same [] = refl
  places_same (k ∷ ks) = ap (λ o. placed o (places_of (bare p) ks)) (place_same k) ∙ ap (placed (class_place p k)) (places_same ks)

  listed_same : (c : ℕ) → interface_places (bare p) c ≡ interface_places p c
  listed_same c = ap (listed (bare p)) (class_at c) ∙ by (slice_get p.classes c)
    where
      by : (o : Option Class) → listed (bare p) (option_map bare_class o) ≡ listed p o
      by None = refl
      by (Some k) = places_same k.interfaces

  above_same : (c : ℕ) → above_places (bare p) c ≡ above_places p c
  above_same c = ap (λ o. placed o (interface_places (bare p) c)) (super_same c) ∙ ap (placed (super_place p c)) (listed_same c)

  under_same : (c d : ℕ) → is_under (bare p) c d ≡ is_under p c d
  under_same c d = ap (λ n. walks (above_places (bare p)) n c d) size_same ∙ walks_same (above_places (bare p)) (above_places p) above_same (length p.classes) c d

  -- ---- what a class defines

  own_same : (name proto c : ℕ) → own_method (bare p) name proto c ≡ own_method p name proto c
  own_same name proto c = ap (method_of_class (bare p) name proto c) (class_at c) ∙ by (slice_get p.classes c)
    where
      at : ℕ → MethodAt
      at i = record { class = c; place = i }

      by : (o : Option Class) → method_of_class (bare p) name proto c (option_map bare_class o) ≡ method_of_class p name proto c o
      by None = refl
      by (Some k) = ap (option_map at) (position_map bare_method (is_method (bare p) name proto) (is_method p name proto) k.methods (λ m. refl))

  method_same : (at : MethodAt) → method_at (bare p) at ≡ option_map bare_method (method_at p at)
  method_same at = ap (option_and_then (λ c. slice_get c.methods at.place)) (class_at at.class) ∙ by (slice_get p.classes at.class)
    where
      by : (o : Option Class) → option_and_then (λ (c : Class). slice_get c.methods at.place) (option_map bare_class o) ≡ option_map bare_method (option_and_then (λ (c : Class). slice_get c.methods at.place) o)
      by None = refl
      by (Some k) = slice_get-map bare_method k.methods at.place

  direct_same : (m : Method) → is_direct (bare p) (bare_method m) ≡ is_direct p m
  unfolding is_direct
  direct_same m = refl

  virtual_same : (o : Option Method) → is_virtual (bare p) (option_map bare_method o) ≡ is_virtual p o
  virtual_same None = refl
  virtual_same (Some m) = ap (λ b. not b) (direct_same m)

  only_same : (o : Option MethodAt) → virtual_only (bare p) o ≡ virtual_only p o
  only_same None = refl
  only_same (Some at) = ap (λ b. cond b (Some at) None) (ap (is_virtual (bare p)) (method_same at) ∙ virtual_same (method_at p at))

  own_virtual_same : (name proto c : ℕ) → own_virtual (bare p) name proto c ≡ own_virtual p name proto c
  own_virtual_same name proto c = ap (virtual_only (bare p)) (own_same name proto c) ∙ only_same (own_method p name proto c)

  code_same : (o : Option Method) → has_code (option_map bare_method o) ≡ has_code o
  code_same None = refl
  code_same (Some m) = by m.body
    where
      by : (o : Option Body) → is_some (bare_code o) ≡ is_some o
      by None = refl
      by (Some b) = refl

  -- ---- what a call names

  coded_same : (o : Option MethodAt) → is_coded (bare p) o ≡ is_coded p o
  coded_same None = refl
  coded_same (Some at) = ap has_code (method_same at) ∙ code_same (method_at p at)

  codes_same : (q : MethodName) (o : Option ℕ) → codes_own (bare p) q o ≡ codes_own p q o
  codes_same q None = refl
  codes_same q (Some c) = ap (is_coded (bare p)) (own_virtual_same q.name q.proto c) ∙ coded_same (own_virtual p q.name q.proto c)

  names_same : (q : MethodName) → names_code (bare p) q ≡ names_code p q
  names_same q = ap (codes_own (bare p) q) (place_same q.class) ∙ codes_same q (class_place p q.class)

  interface_same : (o : Option ℕ) → is_interface_place (bare p) o ≡ is_interface_place p o
  interface_same None = refl
  interface_same (Some c) = ap is_interface (class_at c) ∙ by (slice_get p.classes c)
    where
      by : (o : Option Class) → is_interface (option_map bare_class o) ≡ is_interface o
      by None = refl
      by (Some k) = refl

  called_same : (kind : InvokeKind) (q : MethodName) → names_interface (bare p) kind q ≡ names_interface p kind q
  called_same kind q = ap (λ b. is_interface_call kind || b) (ap (is_interface_place (bare p)) (place_same q.class) ∙ interface_same (class_place p q.class))

  count_same : (o : Option ℕ) → count_under (bare p) o ≡ count_under p o
  count_same None = refl
  count_same (Some c) = ap (λ n. length (filter (λ d. is_under (bare p) d c) (range_with_len 0 n))) size_same
      ∙ ap length (filter_same (λ d. is_under (bare p) d c) (λ d. is_under p d c) (λ d. under_same d c) (range_with_len 0 (length p.classes)))

  abbrev weighed : Bool → Bool → ℕ → ℕ → ℕ
  weighed coded interface bound under = (if coded then 0 else bound + bound) + (if interface then bound else 0) + under

  named_same : (kind : InvokeKind) (o : Option MethodName) → weight_named (bare p) kind o ≡ weight_named p kind o
  named_same kind None = refl
  named_same kind (Some q) =
      ap (λ b. weighed b (names_interface (bare p) kind q) (bound_of (bare p)) (count_under (bare p) (class_place (bare p) q.class))) (names_same q)
      ∙ ap (λ b. weighed (names_code p q) b (bound_of (bare p)) (count_under (bare p) (class_place (bare p) q.class))) (called_same kind q)
      ∙ ap (λ n. weighed (names_code p q) (names_interface p kind q) (n + 1) (count_under (bare p) (class_place (bare p) q.class))) size_same
      ∙ ap (λ n. weighed (names_code p q) (names_interface p kind q) (bound_of p) n) (ap (count_under (bare p)) (place_same q.class) ∙ count_same (class_place p q.class))

  weight_bare : (kind : InvokeKind) (method : ℕ) → call_weight (bare p) kind method ≡ call_weight p kind method
  weight_bare kind method = ap (λ n. if is_virtual_call kind then n else 0) (named_same kind (slice_get p.methods method))

-- programs with the same tables and heads weigh calls the same
pub weight_same : (p q : Program) → bare q ≡ bare p → (kind : InvokeKind) (method : ℕ) → call_weight q kind method ≡ call_weight p kind method
weight_same p q e kind method = sym (weight_bare q kind method) ∙ ap (λ (r : Program). call_weight r kind method) e ∙ weight_bare p kind method
