-- What an accepted call finds: a method with code, whose registers fit below those of the caller.
use Rattle.std.proofs.Common.{◌≡◌, ℕ, zero, suc, ◌≤◌, Bool, true, false, true≢false, List, [], ◌∷◌, refl, sym, ap, ◌∙◌, subst, arith}
use Rattle.std.specs.Prelude.{◌||◌, Option, Some, None, is_some, nat_eq, length, max, if◌then◌else◌}
use Rattle.std.specs.Option.{option_or, option_map, option_and_then}
use Rattle.std.proofs.lemmas.Bool.{eqb-true}
use Rattle.std.proofs.Math.Nat.{le-max_left, le-max_right}
use Rattle.lemmas.proofs.Options.{none_some, some_same}
use Rattle.insn_set.specs.declared.ops.InvokeKind.TheVariants as call
use Rattle.dalvik_defs.specs.Names.{Text, text_eq, signature_eq, same_name}
use Rattle.dalvik_defs.specs.Under.{class_named}
use Rattle.dalvik_defs.specs.Silence.{key_in}
use Rattle.dalvik_defs.specs.Find.{Found, found_in, Search, Finds, Nothing, Clash, method_in, defined_method, chain_from, chain_of, passing, first_method, search_of, finds_statically}
use Rattle.dalvik_defs.specs.Face.{bodies_of}
use Rattle.dalvik_defs.specs.declared.names.Signature.{Signature}
use Rattle.dalvik_defs.specs.declared.names.MethodKey.{MethodKey}
use Rattle.dalvik_defs.specs.declared.forms.Form.{Form}
use Rattle.dalvik_defs.specs.declared.forms.Form.TheVariants as form
use Rattle.dalvik_defs.specs.declared.program.NamedBody.{NamedBody}
use Rattle.dalvik_defs.specs.declared.program.NamedMethod.{NamedMethod}
use Rattle.dalvik_defs.specs.declared.program.NamedClass.{NamedClass}
use Rattle.dalvik_defs.specs.declared.program.NamedProgram.{NamedProgram}
use Rattle.dalvik_defs.proofs.Calm.{text_sound}
use Rattle.program_laws.proofs.Heads.{class_case}
use Rattle.pass_defs.specs.Walks.{form_at, IsRead, Here, Onward}
use Rattle.pass_defs.specs.Inlined.{Callee, with_body, callee_found, callee_of, is_among, callee_at, callee_registers, greatest}
use Rattle.program_laws.specs.Alike.{gets_void}
use Rattle.inline_law.specs.Inlining.{IsNeed, IsCallee}
use Rattle.inline_law.specs.Sound.{Finding, FindsStatic, FindsDirect, IsSoundCallee}
use Rattle.program_laws.proofs.Keys.{key_found}
use Rattle.inline_law.proofs.Lists.{find_passes, text_same}

module _ (p : NamedProgram) where
  -- ---- the method that is found is the one that its name defines

  -- a class by its own name, with a method of a name
  record InClass (n : Text) (s : Signature) (g : Found) : Type 0 where
    class : NamedClass
    method : NamedMethod
    named : class_named p class.name ≡ Some class
    here : method_in class n s ≡ Some method
    same : found_in class method ≡ g

  first_found : (n : Text) (s : Signature) (l : ℕ) (t : Text) (g : Found) → first_method (λ m. true) n s (chain_from l p t) ≡ Some g → InClass n s g
  first_found n s zero t g e = none_some g e
  first_found n s (suc l) t g e = by_class (class_named p t) refl e (λ u. first_found n s l u g)
    where
      by_method : (c : NamedClass) → class_named p c.name ≡ Some c → (o : Option NamedMethod) → method_in c n s ≡ o → (first_method (λ m. true) n s (chain_from l p c.superclass) ≡ Some g → InClass n s g)
          → option_or (passing (λ m. true) c o) (first_method (λ m. true) n s (chain_from l p c.superclass)) ≡ Some g → InClass n s g
      by_method c i None j more e = more e
      by_method c i (Some m) j more e = record { class = c; method = m; named = i; here = j; same = some_same (found_in c m) g e }

      by_class : (o : Option NamedClass) → class_named p t ≡ o → first_method (λ m. true) n s (elim o as (λ o. List NamedClass) [ Some c ↦ c ∷ chain_from l p c.superclass | None ↦ [] ]) ≡ Some g
          → ((u : Text) → first_method (λ m. true) n s (chain_from l p u) ≡ Some g → InClass n s g) → InClass n s g
      by_class None i e more = none_some g e
      by_class (Some c) i e more = by_method c (ap (class_named p) (text_sound c.name t (find_passes (λ x. text_eq x.name t) p.classes c i)) ∙ i) (method_in c n s) refl (more c.superclass) e

  found_by : (k : MethodKey) (g : Found) → finds_statically p k ≡ Finds g → InClass k.name k.signature g
  found_by k g e = by (first_method (λ m. true) k.name k.signature (chain_of p k.class)) refl e
    where
      taken : Search → Option Found
      taken (Finds h) = Some h
      taken t = None

      by : (o : Option Found) → first_method (λ m. true) k.name k.signature (chain_of p k.class) ≡ o → search_of o ≡ Finds g → InClass k.name k.signature g
      by None i e = none_some g (ap taken e)
      by (Some h) i e = first_found k.name k.signature (length p.classes) k.class g (i ∙ ap taken e)

  defined_found : (n : Text) (s : Signature) (g : Found) → InClass n s g → (m : NamedMethod) × ((defined_method p g.key ≡ Some m) × ((g.flags ≡ m.flags) × (g.coded ≡ is_some m.body)))
  defined_found n s g h =
      let t = find_passes (λ x. same_name x.name x.signature n s) h.class.methods h.method h.here in
      let e : key_in h.class h.method ≡ record { class = h.class.name; name = n; signature = s } = key_found h.class h.method (record { class = h.class.name; name = n; signature = s }) (text_same h.class.name) t in
      let a : h.method.name ≡ n = ap (λ k. k.name) e in
      let b : h.method.signature ≡ s = ap (λ k. k.signature) e in (
        h.method,
        (
          ap (λ z. defined_method p z.key) (sym h.same)
              ∙ ap (class_case (λ c. method_in c h.method.name h.method.signature) None) h.named
              ∙ ap (λ z. method_in h.class z h.method.signature) a ∙ ap (λ z. method_in h.class n z) b ∙ h.here,
          (ap (λ z. z.flags) (sym h.same), ap (λ z. z.coded) (sym h.same)),
        ),
      )

  -- ---- calls that find a callee

  abbrev IsFinding : Callee → Form → Type 0
  IsFinding y x = Finding p y x × (bodies_of p y.key ≡ Some y.body)

  abbrev Answer : List ℕ → Found → Callee → Type 0
  Answer args g z = (g.key ≡ z.key) × ((g.coded ≡ true) × ((g.flags ≡ z.method.flags) × ((args ≡ z.args) × (bodies_of p z.key ≡ Some z.body))))

  finds_callee : (args : List ℕ) (k : MethodKey) (y : Callee) → callee_found p args (finds_statically p k) ≡ Some y
      → (g : Found) × ((finds_statically p k ≡ Finds g) × ((g.key ≡ y.key) × ((g.coded ≡ true) × ((g.flags ≡ y.method.flags) × ((args ≡ y.args) × (bodies_of p y.key ≡ Some y.body))))))
  finds_callee args k y e = by (finds_statically p k) refl e
    where
      by_body : (g : Found) (m : NamedMethod) → defined_method p g.key ≡ Some m → g.flags ≡ m.flags → g.coded ≡ is_some m.body → (o : Option NamedBody) → m.body ≡ o
          → option_map (λ b. record { key = g.key; method = m; body = b; args = args }) o ≡ Some y → Answer args g y
      by_body g m d i j None q e = none_some y e
      by_body g m d i j (Some b) q e = subst (Answer args g) (some_same (record { key = g.key; method = m; body = b; args = args }) y e)
          (refl, (j ∙ ap (λ o. is_some o) q, (i, (refl, ap (option_and_then (λ m. m.body)) d ∙ q))))

      by : (t : Search) → finds_statically p k ≡ t → callee_found p args t ≡ Some y → (g : Found) × ((t ≡ Finds g) × Answer args g y)
      by Nothing i e = none_some y e
      by Clash i e = none_some y e
      by (Finds g) i e =
          let d = defined_found k.name k.signature g (found_by k g i) in
          (g, (refl, by_body g d.0 d.1.0 d.1.1.0 d.1.1.1 d.0.body refl (sym (ap (with_body g.key args) d.1.0) ∙ e)))

  pub callee_finds : (x : Form) (y : Callee) → callee_of p (Some x) ≡ Some y → IsFinding y x
  callee_finds (form.Invoke call.Static k args) y e =
      let r = finds_callee args k y e in
      (subst (λ a. Finding p y (form.Invoke call.Static k a)) (sym r.1.1.1.1.1.0) (FindsStatic k r.0 r.1.0 r.1.1.0 r.1.1.1.0 r.1.1.1.1.0), r.1.1.1.1.1.1)
  callee_finds (form.Invoke call.Direct k args) y e =
      let r = finds_callee args k y e in
      (subst (λ a. Finding p y (form.Invoke call.Direct k a)) (sym r.1.1.1.1.1.0) (FindsDirect k r.0 r.1.0 r.1.1.0 r.1.1.1.0 r.1.1.1.1.0), r.1.1.1.1.1.1)
  callee_finds x y e = none_some y e

  -- ---- registers that fit

  among_fits : (b : NamedBody) (l : List ℕ) (n : ℕ) → is_among l n ≡ true → callee_registers (callee_of p (form_at b n)) ≤ greatest p b l
  among_fits b [] n e = absurd (true≢false (sym e))
  among_fits b (m ∷ ms) n e = by (nat_eq n m) refl e (among_fits b ms n)
    where
      by : (t : Bool) → nat_eq n m ≡ t → (t || is_among ms n) ≡ true → (is_among ms n ≡ true → callee_registers (callee_of p (form_at b n)) ≤ greatest p b ms)
          → callee_registers (callee_of p (form_at b n)) ≤ max (callee_registers (callee_of p (form_at b m))) (greatest p b ms)
      by true i e more = subst (λ z. callee_registers (callee_of p (form_at b z)) ≤ max (callee_registers (callee_of p (form_at b m))) (greatest p b ms)) (sym (eqb-true n m i)) (le-max_left _ _)
      by false i e more = let a = more e in let c = le-max_right (callee_registers (callee_of p (form_at b m))) (greatest p b ms) in omega (arith, a, c)

  pub at_site : (b : NamedBody) (l : List ℕ) (n : ℕ) (y : Callee) → callee_at p b l n ≡ Some y → (is_among l n ≡ true) × (callee_of p (form_at b n) ≡ Some y)
  at_site b l n y e = by (is_among l n) e
    where
      by : (t : Bool) → (if t then callee_of p (form_at b n) else None) ≡ Some y → (t ≡ true) × (callee_of p (form_at b n) ≡ Some y)
      by true e = (refl, e)
      by false e = none_some y e

  -- ---- a sound callee

  read_need : (b : NamedBody) → ((n : ℕ) (x : Form) → form_at b n ≡ Some x → gets_void x ≡ false) → IsNeed b (λ n r. IsRead b r n)
  read_need b v = record {
    reads = λ n x r h e. (n, Here n x h e);
    onward = λ n m x r h i k e. (k.0, Onward n m k.0 x h e i k.1);
    voids = λ n x r h e k. absurd (true≢false (sym e ∙ v n x h));
  }

  abbrev pub read_in : Option NamedBody → ℕ → ℕ → Type 0
  read_in None n r = ⊥
  read_in (Some b) n r = IsRead b r n

  abbrev pub reading : MethodKey → ℕ → ℕ → Type 0
  reading k = read_in (bodies_of p k)

  pub sound_callee : (k : MethodKey) (b : NamedBody) (l : List ℕ) (n : ℕ) (x : Form) (y : Callee) → form_at b n ≡ Some x → callee_at p b l n ≡ Some y → IsSoundCallee k y → IsCallee (bodies_of p) reading (greatest p b l) k x y
  sound_callee k b l n x y h e s =
      let a = at_site b l n y e in
      let f = callee_finds x y (ap (callee_of p) (sym h) ∙ a.1) in
      by x f.0 f.1 (subst (λ o. callee_registers o ≤ greatest p b l) a.1 (among_fits b l n a.0))
    where
      by : (x : Form) → Finding p y x → bodies_of p y.key ≡ Some y.body → y.body.registers ≤ greatest p b l → IsCallee (bodies_of p) reading (greatest p b l) k x y
      by _ (FindsStatic g k' i j c q) d r = record {
        kind = call.Static;
        called = g;
        call = refl;
        found = d;
        class = text_sound y.key.class k.class s.class;
        unguarded = s.unguarded;
        fits = r;
        ins = s.ins;
        passes = s.passes;
        passes_all = s.passes_all;
        in_place = s.in_place;
        begins = s.begins;
        reads_room = s.reads_room;
        writes_room = s.writes_room;
        is_need = subst (λ o. IsNeed y.body (read_in o)) (sym d) (read_need y.body s.voids);
        arguments = λ r m. s.arguments r (subst (λ o. read_in o 0 r) d m);
      }
      by _ (FindsDirect g k' i j c q) d r = record {
        kind = call.Direct;
        called = g;
        call = refl;
        found = d;
        class = text_sound y.key.class k.class s.class;
        unguarded = s.unguarded;
        fits = r;
        ins = s.ins;
        passes = s.passes;
        passes_all = s.passes_all;
        in_place = s.in_place;
        begins = s.begins;
        reads_room = s.reads_room;
        writes_room = s.writes_room;
        is_need = subst (λ o. IsNeed y.body (read_in o)) (sym d) (read_need y.body s.voids);
        arguments = λ r m. s.arguments r (subst (λ o. read_in o 0 r) d m);
      }
