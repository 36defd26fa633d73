-- What is written over bodies changes nothing that calls are weighed by.
use Rattle.std.proofs.Common.{◌≡◌, ℕ, zero, suc, ◌+◌, Bool, true, List, [], ◌∷◌, length, Option, Some, None, refl, sym, ap, ap₂, ◌∙◌}
use Rattle.std.specs.Prelude.{◌||◌, cond, filter, is_some, nat_eq, not, position, slice_get, slice_index_or, sum_by, if◌then◌else◌}
use Rattle.std.specs.List.{list_any, range_with_len}
use Rattle.std.specs.Option.{option_and_then, option_map}
use Rattle.std.proofs.lemmas.List.Sums.{sum_by-cons}
use Rattle.insn_set.specs.declared.ops.InvokeKind.{InvokeKind}
use Rattle.insn_set.specs.declared.form.Insn.{Insn}
use Rattle.insn_set.specs.declared.form.Insn.TheVariants as insn
use Rattle.program_model.specs.declared.body.Body.{Body}
use Rattle.program_model.specs.declared.pools.MethodName.{MethodName}
use Rattle.program_model.specs.declared.program.Class.{Class}
use Rattle.program_model.specs.declared.program.Method.{Method}
use Rattle.program_model.specs.declared.program.MethodAt.{MethodAt}
use Rattle.program_model.specs.declared.program.Program.{Program}
use Rattle.program_model.specs.Lookups.{class_place, method_at}
use Rattle.program_model.specs.MemberRules.{is_direct}
use Rattle.class_defs.specs.Members.{has_code, is_interface, is_method, is_virtual, method_of_class, own_method, own_virtual, virtual_only}
use Rattle.class_defs.specs.Places.{above_places, interface_places, is_under, listed, placed, places_of, super_place, walks}
use Rattle.class_defs.proofs.Positions.{position_step}
use Rattle.rewrite_pass.specs.declared.edit.Edit.{Edit}
use Rattle.rewrite_pass.specs.Plans.{code_edited, method_by, each_by, class_by, program_by}
use Rattle.devirt.specs.Measure.{bound_of, call_weight, calls_by, calls_in, class_weight, code_weight, codes_own, count_under, insn_weight, insns_weight, is_coded, is_interface_call, is_interface_place, is_virtual_call, method_weight, names_code, names_interface, weight_named}

-- ---- lists

got_each : {A E : Type 0} (by : List E → A → A) → ((x : A) → by [] x ≡ x) → (plan : List (List E)) (xs : List A) (k : ℕ) → slice_get (each_by by plan xs) k ≡ option_map (by (slice_index_or plan k [])) (slice_get xs k)
got_each {A = A} by same [] xs k = at (slice_get xs k)
  where
    at : (o : Option A) → o ≡ option_map (by []) o
    at None = refl
    at (Some x) = ap Some (sym (same x))
got_each by same (es ∷ plan) [] k = refl
got_each by same (es ∷ plan) (x ∷ xs) zero = refl
got_each by same (es ∷ plan) (x ∷ xs) (suc k) = got_each by same plan xs k

each_long : {A E : Type 0} (by : List E → A → A) (plan : List (List E)) (xs : List A) → length (each_by by plan xs) ≡ length xs
each_long by [] xs = refl
each_long by (es ∷ plan) [] = refl
each_long by (es ∷ plan) (x ∷ xs) = ap suc (each_long by plan xs)

place_each : {A E : Type 0} (by : List E → A → A) (t : A → Bool) → ((es : List E) (x : A) → t (by es x) ≡ t x) → (plan : List (List E)) (xs : List A) → position t (each_by by plan xs) ≡ position t xs
place_each by t same [] xs = refl
place_each by t same (es ∷ plan) [] = refl
place_each by t same (es ∷ plan) (x ∷ xs) = position_step t (by es x) (each_by by plan xs)
    ∙ (ap₂ (λ b o. cond b (Some 0) (option_map suc o)) (same es x) (place_each by t same plan xs) ∙ sym (position_step t x xs))

any_same : (t s : ℕ → Bool) → ((u : ℕ) → t u ≡ s u) → (us : List ℕ) → list_any t us ≡ list_any s us
any_same t s h [] = refl
any_same t s h (u ∷ us) = ap₂ (λ a b. a || b) (h u) (any_same t s h us)

filter_same : (t s : ℕ → Bool) → ((u : ℕ) → t u ≡ s u) → (us : List ℕ) → filter t us ≡ filter s us
filter_same t s h [] = refl
filter_same t s h (u ∷ us) = ap₂ (λ b l. cond b (u ∷ l) l) (h u) (filter_same t s h us)

sum_same : {A : Type 0} (f g : A → ℕ) → ((x : A) → f x ≡ g x) → (xs : List A) → sum_by f xs ≡ sum_by g xs
sum_same f g h [] = refl
sum_same f g h (x ∷ xs) = sum_by-cons f x xs ∙ (ap₂ (λ a b. a + b) (h x) (sum_same f g h xs) ∙ sym (sum_by-cons g x xs))

walks_same : (f g : ℕ → List ℕ) → ((c : ℕ) → f c ≡ g c) → (n c d : ℕ) → walks f n c d ≡ walks g n c d
walks_same f g h zero c d = refl
walks_same f g h (suc n) c d = ap (λ l. cond (nat_eq c d) true (list_any (λ u. walks f n u d) l)) (h c)
    ∙ ap (cond (nat_eq c d) true) (any_same (λ u. walks f n u d) (λ u. walks g n u d) (λ u. walks_same f g h n u d) (g c))

-- ---- methods

method_name : (es : List Edit) (m : Method) → (method_by es m).name ≡ m.name
method_name [] m = refl
method_name (e ∷ es) m = refl

method_code : (es : List Edit) (m : Method) → is_some (method_by es m).body ≡ is_some m.body
method_code [] m = refl
method_code (e ∷ es) m = by m.body
  where
    by : (o : Option Body) → is_some (code_edited (e ∷ es) o) ≡ is_some o
    by None = refl
    by (Some b) = refl

method_itself : (m : Method) → method_by [] m ≡ m
method_itself m = refl

class_itself : (c : Class) → class_by [] c ≡ c
class_itself c = refl

module _ (p : Program) (plan : List (List (List Edit))) where
  abbrev q : Program
  q = program_by plan p

  abbrev of_class : ℕ → List (List Edit)
  of_class c = slice_index_or plan c []

  got : (c : ℕ) → slice_get q.classes c ≡ option_map (class_by (of_class c)) (slice_get p.classes c)
  got c = got_each class_by class_itself plan p.classes c

  long : length q.classes ≡ length p.classes
  long = each_long class_by plan p.classes

  place_same : (kind : ℕ) → class_place q kind ≡ class_place p kind
  place_same kind = place_each class_by (λ (c : Class). nat_eq c.name kind) (λ es c. refl) plan p.classes

  super_same : (c : ℕ) → super_place q c ≡ super_place p c
  super_same c = ap (option_and_then (λ (k : Class). class_place q k.superclass)) (got c) ∙ by (slice_get p.classes c)
    where
      by : (o : Option Class) → option_and_then (λ (k : Class). class_place q k.superclass) (option_map (class_by (of_class c)) o) ≡ option_and_then (λ (k : Class). class_place p k.superclass) o
      by None = refl
      by (Some k) = place_same k.superclass

  places_same : (ks : List ℕ) → places_of q ks ≡ places_of p ks
  places_same [] = refl
  places_same (k ∷ ks) = ap₂ placed (place_same k) (places_same ks)

  interfaces_same : (c : ℕ) → interface_places q c ≡ interface_places p c
  interfaces_same c = ap (listed q) (got c) ∙ by (slice_get p.classes c)
    where
      by : (o : Option Class) → listed q (option_map (class_by (of_class c)) o) ≡ listed p o
      by None = refl
      by (Some k) = places_same k.interfaces

  under_same : (c d : ℕ) → is_under q c d ≡ is_under p c d
  under_same c d = ap (λ n. walks (above_places q) n c d) long ∙ walks_same (above_places q) (above_places p) (λ u. ap₂ placed (super_same u) (interfaces_same u)) (length p.classes) c d

  interface_same : (c : ℕ) → is_interface (slice_get q.classes c) ≡ is_interface (slice_get p.classes c)
  interface_same c = ap is_interface (got c) ∙ by (slice_get p.classes c)
    where
      by : (o : Option Class) → is_interface (option_map (class_by (of_class c)) o) ≡ is_interface o
      by None = refl
      by (Some k) = refl

  own_same : (name proto c : ℕ) → own_method q name proto c ≡ own_method p name proto c
  own_same name proto c = ap (method_of_class q name proto c) (got c) ∙ by (slice_get p.classes c)
    where
      tests_same : (es : List Edit) (m : Method) → is_method p name proto (method_by es m) ≡ is_method p name proto m
      tests_same [] m = refl
      tests_same (e ∷ es) m = refl

      by : (o : Option Class) → method_of_class q name proto c (option_map (class_by (of_class c)) o) ≡ method_of_class p name proto c o
      by None = refl
      by (Some k) = ap (option_map (λ i. record { class = c; place = i })) (place_each method_by (is_method p name proto) tests_same (of_class c) k.methods)

  abbrev of_method : MethodAt → List Edit
  of_method at = slice_index_or (of_class at.class) at.place []

  at_same : (at : MethodAt) → method_at q at ≡ option_map (method_by (of_method at)) (method_at p at)
  at_same at = ap (option_and_then (λ (c : Class). slice_get c.methods at.place)) (got at.class) ∙ by (slice_get p.classes at.class)
    where
      by : (o : Option Class) → option_and_then (λ (c : Class). slice_get c.methods at.place) (option_map (class_by (of_class at.class)) o)
          ≡ option_map (method_by (of_method at)) (option_and_then (λ (c : Class). slice_get c.methods at.place) o)
      by None = refl
      by (Some k) = got_each method_by method_itself (of_class at.class) k.methods at.place

  direct_same : (es : List Edit) (m : Method) → is_direct q (method_by es m) ≡ is_direct p m
  unfolding is_direct
  direct_same [] m = refl
  direct_same (e ∷ es) m = refl

  virtual_same : (at : MethodAt) → is_virtual q (method_at q at) ≡ is_virtual p (method_at p at)
  virtual_same at = ap (is_virtual q) (at_same at) ∙ by (method_at p at)
    where
      by : (o : Option Method) → is_virtual q (option_map (method_by (of_method at)) o) ≡ is_virtual p o
      by None = refl
      by (Some m) = ap not (direct_same (of_method at) m)

  code_same : (at : MethodAt) → has_code (method_at q at) ≡ has_code (method_at p at)
  code_same at = ap has_code (at_same at) ∙ by (method_at p at)
    where
      by : (o : Option Method) → has_code (option_map (method_by (of_method at)) o) ≡ has_code o
      by None = refl
      by (Some m) = method_code (of_method at) m

  own_virtual_same : (name proto c : ℕ) → own_virtual q name proto c ≡ own_virtual p name proto c
  own_virtual_same name proto c = ap (virtual_only q) (own_same name proto c) ∙ by (own_method p name proto c)
    where
      by : (o : Option MethodAt) → virtual_only q o ≡ virtual_only p o
      by None = refl
      by (Some at) = ap (λ b. cond b (Some at) None) (virtual_same at)

  coded_same : (o : Option MethodAt) → is_coded q o ≡ is_coded p o
  coded_same None = refl
  coded_same (Some at) = code_same at

  codes_same : (n : MethodName) (o : Option ℕ) → codes_own q n o ≡ codes_own p n o
  codes_same n None = refl
  codes_same n (Some c) = ap (is_coded q) (own_virtual_same n.name n.proto c) ∙ coded_same (own_virtual p n.name n.proto c)

  interface_place_same : (o : Option ℕ) → is_interface_place q o ≡ is_interface_place p o
  interface_place_same None = refl
  interface_place_same (Some c) = interface_same c

  count_same : (o : Option ℕ) → count_under q o ≡ count_under p o
  count_same None = refl
  count_same (Some c) = ap (λ n. length (filter (λ d. is_under q d c) (range_with_len 0 n))) long
      ∙ ap length (filter_same (λ d. is_under q d c) (λ d. is_under p d c) (λ d. under_same d c) (range_with_len 0 (length p.classes)))

  named_same : (kind : InvokeKind) (o : Option MethodName) → weight_named q kind o ≡ weight_named p kind o
  named_same kind None = refl
  named_same kind (Some n) =
      let code : names_code q n ≡ names_code p n = ap (codes_own q n) (place_same n.class) ∙ codes_same n (class_place p n.class) in
      let face : names_interface q kind n ≡ names_interface p kind n = ap (λ b. is_interface_call kind || b) (ap (is_interface_place q) (place_same n.class) ∙ interface_place_same (class_place p n.class)) in
      let count : count_under q (class_place q n.class) ≡ count_under p (class_place p n.class) = ap (count_under q) (place_same n.class) ∙ count_same (class_place p n.class) in
      let bound : bound_of q ≡ bound_of p = ap (λ n. n + 1) long in
      ap₂ (λ a b. a + b) (ap₂ (λ a b. a + b) (ap₂ (λ b n. if b then 0 else n + n) code bound) (ap₂ (λ b n. if b then n else 0) face bound)) count

  pub weight_same : (kind : InvokeKind) (method : ℕ) → call_weight q kind method ≡ call_weight p kind method
  weight_same kind method = ap (λ n. if is_virtual_call kind then n else 0) (named_same kind (slice_get p.methods method))

-- ---- programs that are weighed alike

module _ (w v : InvokeKind → ℕ → ℕ) (same : (kind : InvokeKind) (method : ℕ) → w kind method ≡ v kind method) where
  insn_same : (i : Insn) → insn_weight w i ≡ insn_weight v i
  insn_same (insn.Invoke kind method args) = same kind method
  insn_same i = refl

  insns_same : (is : List Insn) → insns_weight w is ≡ insns_weight v is
  insns_same [] = refl
  insns_same (i ∷ is) = ap₂ (λ a b. a + b) (insn_same i) (insns_same is)

  code_weight_same : (o : Option Body) → code_weight w o ≡ code_weight v o
  code_weight_same None = refl
  code_weight_same (Some b) = insns_same b.insns

  class_same : (c : Class) → class_weight w c ≡ class_weight v c
  class_same c = sum_same (method_weight w) (method_weight v) (λ m. code_weight_same m.body) c.methods

  pub calls_same : (r : Program) → calls_by w r ≡ calls_by v r
  calls_same r = sum_same (class_weight w) (class_weight v) class_same r.classes

-- a program after a plan may be weighed as before it
pub weighed_before : (p : Program) (plan : List (List (List Edit))) → calls_in (program_by plan p) ≡ calls_by (call_weight p) (program_by plan p)
weighed_before p plan = calls_same (call_weight (program_by plan p)) (call_weight p) (weight_same p plan) (program_by plan p)
