-- The calls of methods that are made static, and the code in which there is none.
use Rattle.std.proofs.Common.{◌≡◌, ℕ, zero, suc, ◌+◌, Bool, true, false, true≢false, List, [], ◌∷◌, map, Option, Some, None, refl, sym, ap, ◌∙◌, arith}
use Rattle.std.specs.Prelude.{◌&&◌, ◌||◌, cond, nat_eq, not, slice_get, slice_index_or}
use Rattle.std.specs.List.{list_any}
use Rattle.lemmas.proofs.Bools.{and_left, and_right, clash, or_left}
use Rattle.lemmas.proofs.Options.{none_some, some_same}
use Rattle.insn_set.specs.declared.form.Insn.{Insn}
use Rattle.insn_set.specs.declared.form.Insn.TheVariants as insn
use Rattle.insn_set.specs.declared.ops.InvokeKind.TheVariants as call
use Rattle.program_model.specs.Lookups.{class_place, method_at}
use Rattle.program_model.specs.declared.body.Body.{Body}
use Rattle.program_model.specs.declared.pass.Outside.{Outside}
use Rattle.program_model.specs.declared.pools.MethodName.{MethodName}
use Rattle.program_model.specs.declared.program.Class.{Class}
use Rattle.program_model.specs.declared.program.Method.{Method}
use Rattle.program_model.specs.declared.program.MethodAt.{MethodAt}
use Rattle.program_model.specs.declared.program.Program.{Program}
use Rattle.std.specs.Option.{option_map}
use Rattle.class_defs.specs.Finding.{by_entry, first_among, resolution_of, resolves_method}
use Rattle.class_defs.specs.Members.{own_method}
use Rattle.class_defs.proofs.Positions.{number_test}
use Rattle.facts.specs.declared.facts.Facts.{Facts}
use Rattle.static_protos.specs.Tables.{wanted, has_room}
use Rattle.loose_methods.specs.Candidates.{is_candidate, may_be_static}
use Rattle.loose_methods.specs.Loose.{is_this, is_it, named_by, names_it, may_find, concerns, has_receiver, is_plain_call, allows, allows_by, all_allow, code_allows, methods_allow, classes_allow, calls_allow}
use Rattle.loose_methods.specs.Mentioned.{is_mentioned}
use Rattle.staticise.specs.Judging.{judged}
use Rattle.staticise.specs.Loosened.{is_given, target_method, target_at, target_of, insn_loosened, code_loosened}
use Rattle.staticise.specs.Called.{AreKnown, IsUntouched}
use Rattle.staticise.proofs.Made.{made_of}

-- ---- one call of all

module _ (p : Program) (facts : Facts) (admitted : List Bool) (n : ℕ) where
  insn_in : (caller method start position : ℕ) (is : List Insn) (i : Insn) → all_allow p facts admitted n caller method start is ≡ true → slice_get is position ≡ Some i → allows p facts admitted n caller method (position + start) i ≡ true
  insn_in caller method start position [] i h e = none_some i e
  insn_in caller method start zero (j ∷ is) i h e =
      ap (λ k. allows p facts admitted n caller method k i) (let z : 0 + start ≡ start = omega arith in z) ∙ ap (allows p facts admitted n caller method start) (sym (some_same j i e))
      ∙ and_left (allows p facts admitted n caller method start j) (all_allow p facts admitted n caller method (suc start) is) h
  insn_in caller method start (suc position) (j ∷ is) i h e =
      ap (λ k. allows p facts admitted n caller method k i) (let z : suc position + start ≡ position + suc start = omega arith in z)
      ∙ insn_in caller method (suc start) position is i (and_right (allows p facts admitted n caller method start j) (all_allow p facts admitted n caller method (suc start) is) h) e

  method_in : (caller at : ℕ) (ms : List Method) (m : Method) → methods_allow p facts admitted n caller ms ≡ true → slice_get ms at ≡ Some m → code_allows p facts admitted n caller m.name m.body ≡ true
  method_in caller at [] m h e = none_some m e
  method_in caller zero (x ∷ ms) m h e =
      ap (λ (y : Method). code_allows p facts admitted n caller y.name y.body) (sym (some_same x m e)) ∙ and_left (code_allows p facts admitted n caller x.name x.body) (methods_allow p facts admitted n caller ms) h
  method_in caller (suc at) (x ∷ ms) m h e = method_in caller at ms m (and_right (code_allows p facts admitted n caller x.name x.body) (methods_allow p facts admitted n caller ms) h) e

  class_in : (start place : ℕ) (ks : List Class) (k : Class) → classes_allow p facts admitted n start ks ≡ true → slice_get ks place ≡ Some k → methods_allow p facts admitted n (place + start) k.methods ≡ true
  class_in start place [] k h e = none_some k e
  class_in start zero (x ∷ ks) k h e =
      ap (λ c. methods_allow p facts admitted n c k.methods) (let z : 0 + start ≡ start = omega arith in z) ∙ ap (λ (y : Class). methods_allow p facts admitted n start y.methods) (sym (some_same x k e))
      ∙ and_left (methods_allow p facts admitted n start x.methods) (classes_allow p facts admitted n (suc start) ks) h
  class_in start (suc place) (x ∷ ks) k h e =
      ap (λ c. methods_allow p facts admitted n c k.methods) (let z : suc place + start ≡ place + suc start = omega arith in z)
      ∙ class_in (suc start) place ks k (and_right (methods_allow p facts admitted n start x.methods) (classes_allow p facts admitted n (suc start) ks) h) e

  -- each call in each body lets it be static
  call_in : (place at position : ℕ) (k : Class) (m : Method) (b : Body) (i : Insn) → calls_allow p facts admitted n ≡ true → slice_get p.classes place ≡ Some k → slice_get k.methods at ≡ Some m → m.body ≡ Some b → slice_get b.insns position ≡ Some i
      → allows p facts admitted n place m.name position i ≡ true
  call_in place at position k m b i h e f g x =
      let c = class_in 0 place p.classes k h e in
      let d = method_in (place + 0) at k.methods m c f in
      let y = insn_in (place + 0) m.name 0 position b.insns i (sym (ap (code_allows p facts admitted n (place + 0) m.name) g) ∙ d) x in
      ap (λ c. allows p facts admitted n c m.name position i) (let z : place ≡ place + 0 = omega arith in z) ∙ ap (λ j. allows p facts admitted n (place + 0) m.name j i) (let z : position ≡ position + 0 = omega arith in z) ∙ y

-- ---- the calls of a method that is made static

module _ (p : Program) (facts : Facts) (o : Outside) (admitted : List Bool) where
  allowed : (n : ℕ) → is_given (judged p facts o admitted).given n ≡ true → calls_allow p facts admitted n ≡ true
  allowed n g =
      let w = made_of p facts o admitted n g in
      let may = and_left (may_be_static p facts o admitted w.place w.class w.name w.method) (has_room p w.tables (wanted p w.class w.method w.name w.proto)) w.holds in
      ap (calls_allow p facts admitted) (sym w.is_number) ∙ and_right (is_candidate p o w.place w.class w.name w.method && not (is_mentioned p w.method.name)) (calls_allow p facts admitted w.method.name) may

  three_of : (c a l r : Bool) → (not c || (a && l && r)) ≡ true → c ≡ true → (a ≡ true) × ((l ≡ true) × (r ≡ true))
  three_of false a l r e f = absurd (true≢false (sym f))
  three_of true a l r e f = (and_left a l (and_left (a && l) r e), (and_right a l (and_left (a && l) r e), and_right (a && l) r e))

  pub calls_known : AreKnown p facts admitted (judged p facts o admitted)
  calls_known = record {
    each = λ n place at position m kind called args q g c e h.
        let a = call_in p facts admitted n place at position c.class m c.body (insn.Invoke kind called args) (allowed n g) c.is_class c.is_method c.is_body c.is_call in
        three_of (concerns p n place kind called q) (slice_index_or admitted m.name false) (is_plain_call p n place kind called q) (has_receiver facts m.name position kind args)
        (sym (ap (allows_by p facts admitted n place m.name position kind called args) e) ∙ a) h;
  }

  -- ---- code without such calls

  -- a number that resolves to a method that is made static names it
  record Named (called n : ℕ) : Type 0 where
    entry : MethodName
    there : slice_get p.methods called ≡ Some entry
    names : names_it p n called ≡ true
    given : is_given (judged p facts o admitted).given n ≡ true

  target_named : (called n : ℕ) → target_of p (judged p facts o admitted).given called ≡ Some n → Named called n
  target_named called n e = by (slice_get p.methods called) refl
    where
      given : List (Option ℕ)
      given = (judged p facts o admitted).given

      by_method : (x : Option Method) → target_method given x ≡ Some n → (is_this n (option_map (λ (m : Method). m.name) x) ≡ true) × (is_given given n ≡ true)
      by_method None f = none_some n f
      by_method (Some m) f = test (is_given given m.name) refl f
        where
          test : (b : Bool) → is_given given m.name ≡ b → cond b (Some m.name) None ≡ Some n → (nat_eq m.name n ≡ true) × (is_given given n ≡ true)
          test true g f = (number_test m.name n (some_same m.name n f), ap (is_given given) (sym (some_same m.name n f)) ∙ g)
          test false g f = none_some n f

      by_found : (x : Option MethodAt) → target_at p given x ≡ Some n → (is_this n (named_by p called x) ≡ true) × (is_given given n ≡ true)
      by_found None f = none_some n f
      by_found (Some at) f = by_method (method_at p at) f

      by : (x : Option MethodName) → slice_get p.methods called ≡ x → Named called n
      by None f = none_some n (sym (ap (λ o. target_at p given (by_entry (λ q. first_among (own_method p q.name q.proto) (resolution_of p (class_place p q.class))) o)) f) ∙ e)
      by (Some q) f = let r = by_found (resolves_method p called) e in record { entry = q; there = f; names = r.0; given = r.1 }

  none_in : (place at position : ℕ) (k : Class) (m : Method) (b : Body) (i : Insn) → slice_get p.classes place ≡ Some k → slice_get k.methods at ≡ Some m → slice_index_or admitted m.name false ≡ false → m.body ≡ Some b → slice_get b.insns position ≡ Some i
      → insn_loosened p (judged p facts o admitted).given i ≡ i
  none_in place at position k m b (insn.Invoke kind called args) e f refused g x = by (target_of p (judged p facts o admitted).given called) refl
    where
      by : (t : Option ℕ) → target_of p (judged p facts o admitted).given called ≡ t → (elim t as (λ t. Insn) [ Some target ↦ insn.Invoke call.Static target args | None ↦ insn.Invoke kind called args ]) ≡ insn.Invoke kind called args
      by None y = refl
      by (Some n) y =
          let r = target_named called n y in
          let known = calls_known.each n place at position m kind called args r.entry r.given (record { class = k; body = b; is_class = e; is_method = f; is_body = g; is_call = x }) r.there
          (or_left (names_it p n called) (list_any (is_it p n) (may_find p place kind called r.entry)) r.names) in
          clash (slice_index_or admitted m.name false) known.0 refused
  none_in place at position k m b i e f refused g x = refl

  all_stay : (given : List (Option ℕ)) (is : List Insn) → ((position : ℕ) (i : Insn) → slice_get is position ≡ Some i → insn_loosened p given i ≡ i) → map (insn_loosened p given) is ≡ is
  all_stay given [] h = refl
  all_stay given (i ∷ is) h = ap (λ j. j ∷ map (insn_loosened p given) is) (h 0 i refl) ∙ ap (λ js. i ∷ js) (all_stay given is (λ position j e. h (suc position) j e))

  pub untouched : IsUntouched p admitted (judged p facts o admitted)
  untouched place at k m e f refused = by m.body refl
    where
      by : (x : Option Body) → m.body ≡ x → code_loosened p (judged p facts o admitted).given x ≡ x
      by None g = refl
      by (Some b) g = ap (λ is. Some (record b { insns = is })) (all_stay (judged p facts o admitted).given b.insns (λ position i x. none_in place at position k m b i e f refused g x))
