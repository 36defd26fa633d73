-- What stays along passes, also ones that make methods static.
use Rattle.std.proofs.Common.{◌≡◌, ◌⊎◌, inl, inr, ℕ, zero, suc, Bool, true, false, true≢false, List, [], ◌∷◌, length, Option, Some, None, refl, sym, ap, ◌∙◌, subst, arith}
use Rattle.std.specs.Prelude.{◌||◌, ◌==◌, slice_get, slice_index_or}
use Rattle.std.proofs.lemmas.Nat.{and_or_self}
use Rattle.lemmas.proofs.Bools.{clash, neither_of}
use Rattle.program_model.specs.MemberRules.{is_static}
use Rattle.program_model.specs.declared.body.Body.{Body}
use Rattle.program_model.specs.declared.flags.Flags.{Flags}
use Rattle.program_model.specs.declared.pools.MethodName.{MethodName}
use Rattle.program_model.specs.declared.pools.Proto.{Proto}
use Rattle.program_model.specs.declared.program.Class.{Class}
use Rattle.program_model.specs.declared.program.Field.{Field}
use Rattle.program_model.specs.declared.program.Method.{Method}
use Rattle.program_model.specs.declared.program.Program.{Program}
use Rattle.staticise.specs.Loosened.{flags_loosened, marks_loosened}
use Rattle.bodies_kept.specs.Stays.{ClassStaysBy, FewRegisters, MethodStaysBy, NoMoreRegisters, Stands, Stays, StaysBy, StaysInlined}
use Rattle.static_kept.specs.Staying.{ClassStaysAlongBy, HadReceiver, MethodStaysAlongBy, NameMade, StaysAlong, StaysAlongBy, StaysAlongInlined}

-- ---- registers

no_more_on : (a b c : Option Body) → NoMoreRegisters a b → NoMoreRegisters b c → NoMoreRegisters a c
no_more_on None None None h k = tt
no_more_on (Some a) (Some b) (Some c) h k = (omega (arith, h.0, k.0), k.1 ∙ h.1)
no_more_on None (Some b) c h k = absurd h
no_more_on (Some a) None c h k = absurd h
no_more_on None None (Some c) h k = absurd k
no_more_on (Some a) (Some b) None h k = absurd k

few_behind : (a b c : Option Body) → NoMoreRegisters a b → FewRegisters b c → FewRegisters a c
few_behind None None None h k = tt
few_behind (Some a) (Some b) (Some c) h k = (omega (arith, h.0, k.0), k.1 ∙ h.1)
few_behind None (Some b) c h k = absurd h
few_behind (Some a) None c h k = absurd h
few_behind None None (Some c) h k = absurd k
few_behind (Some a) (Some b) None h k = absurd k

few_before : (a b c : Option Body) → FewRegisters a b → NoMoreRegisters b c → FewRegisters a c
few_before None None None h k = tt
few_before (Some a) (Some b) (Some c) h k = (omega (arith, h.0, k.0), k.1 ∙ h.1)
few_before None (Some b) c h k = absurd h
few_before (Some a) None c h k = absurd h
few_before None None (Some c) h k = absurd k
few_before (Some a) (Some b) None h k = absurd k

-- ---- flags

static_now : (f : Flags) → is_static (flags_loosened f) ≡ true
static_now f = ap (λ n. n == 8) (and_or_self 8 f.0)

not_made : {A : Type 0} → false ≡ true → A
not_made e = clash true refl (sym e)

module _ (admitted : List Bool) where
  -- ---- passes that make no method static

  method_kept : (R : Option Body → Option Body → Type 0) (m n : Method) → MethodStaysBy R admitted m n → MethodStaysAlongBy R (λ k. false) admitted m n
  method_kept R m n x = record {
    rest = x.rest ∙ spelled;
    plain = λ e. (ap (λ (z : Method). z.flags) x.rest, ap (λ (z : Method). z.parameter_marks) x.rest);
    receiver = λ e. not_made e;
    turned = λ e. not_made e;
    refused = λ e. (ap (λ (z : Method). z.body) (x.refused e), ap (λ (z : Method). z.lines) (x.refused e));
    registers = x.registers;
  }
    where
      spelled : record m { body = n.body; lines = n.lines } ≡ record m { flags = n.flags; parameter_marks = n.parameter_marks; body = n.body; lines = n.lines }
      spelled = ap (λ f. record m { flags = f; body = n.body; lines = n.lines }) (sym (ap (λ (z : Method). z.flags) x.rest))
          ∙ ap (λ ms. record m { flags = n.flags; parameter_marks = ms; body = n.body; lines = n.lines }) (sym (ap (λ (z : Method). z.parameter_marks) x.rest))

  class_kept : (R : Option Body → Option Body → Type 0) (c d : Class) → ClassStaysBy R admitted c d → ClassStaysAlongBy R (λ k. false) admitted c d
  class_kept R c d x = record { rest = x.rest; fields = x.fields; methods = λ n s. let y = x.methods n s in (y.0, (y.1.0, method_kept R y.0 n y.1.1)) }

  along_kept_by : (R : Option Body → Option Body → Type 0) (p q : Program) → StaysBy R admitted p q → StaysAlongBy R admitted p q
  along_kept_by R p q x = record {
    made = λ n. false;
    rest = x.rest ∙ spelled;
    strings = λ n t e. ap (λ (z : Program). slice_get z.strings n) x.rest ∙ e;
    protos = λ n u e. ap (λ (z : Program). slice_get z.protos n) x.rest ∙ e;
    long = ap (λ (z : Program). length z.methods) x.rest;
    names = λ n m e f. ap (λ (z : Program). slice_get z.methods n) x.rest ∙ e;
    named = λ n m e f. not_made f;
    had = λ n f. not_made f;
    classes = λ d s. let c = x.classes d s in (c.0, (c.1.0, class_kept R c.0 d c.1.1));
  }
    where
      spelled : record p { classes = q.classes } ≡ record p { strings = q.strings; protos = q.protos; methods = q.methods; classes = q.classes }
      spelled = ap (λ ts. record p { strings = ts; classes = q.classes }) (sym (ap (λ (z : Program). z.strings) x.rest))
          ∙ (ap (λ ps. record p { strings = q.strings; protos = ps; classes = q.classes }) (sym (ap (λ (z : Program). z.protos) x.rest))
          ∙ ap (λ ms. record p { strings = q.strings; protos = q.protos; methods = ms; classes = q.classes }) (sym (ap (λ (z : Program). z.methods) x.rest)))

  pub along_kept : (p q : Program) → Stays admitted p q → StaysAlong admitted p q
  along_kept = along_kept_by NoMoreRegisters

  pub along_inlined : (p q : Program) → StaysInlined admitted p q → StaysAlongInlined admitted p q
  along_inlined = along_kept_by FewRegisters

-- ---- one after another

module _ (R S T : Option Body → Option Body → Type 0) (on : (a b c : Option Body) → R a b → S b c → T a c) (admitted : List Bool) where
  module _ (a b : ℕ → Bool) where
    abbrev either : ℕ → Bool
    either n = a n || b n

    method_on : (l m n : Method) → MethodStaysAlongBy R a admitted l m → MethodStaysAlongBy S b admitted m n → MethodStaysAlongBy T either admitted l n
    method_on l m n x y = record {
      rest = y.rest ∙ ap (λ (z : Method). record z { flags = n.flags; parameter_marks = n.parameter_marks; body = n.body; lines = n.lines }) x.rest;
      plain = plain_on;
      receiver = λ e. receiver_on (a l.name) refl e;
      turned = λ e. turned_on (a l.name) refl e;
      refused = λ e. let z = y.refused (ap (λ k. slice_index_or admitted k false) number ∙ e) in let w = x.refused e in (z.0 ∙ w.0, z.1 ∙ w.1);
      registers = on l.body m.body n.body x.registers y.registers;
    }
      where
        number : m.name ≡ l.name
        number = ap (λ (z : Method). z.name) x.rest

        plain_on : either l.name ≡ false → (n.flags ≡ l.flags) × (n.parameter_marks ≡ l.parameter_marks)
        plain_on e =
            let f = neither_of (a l.name) (b l.name) e in
            let z = x.plain f.0 in
            let w = y.plain (ap b number ∙ f.1) in
            (w.0 ∙ z.0, w.1 ∙ z.1)

        receiver_on : (s : Bool) → a l.name ≡ s → (s || b l.name) ≡ true → is_static l.flags ≡ false
        receiver_on true i e = x.receiver i
        receiver_on false i e = ap is_static (sym (x.plain i).0) ∙ y.receiver (ap b number ∙ e)

        first_turned : (s : Bool) → a l.name ≡ true → b l.name ≡ s → (n.flags ≡ flags_loosened l.flags) × (n.parameter_marks ≡ marks_loosened l.parameter_marks)
        first_turned true i j = clash (is_static m.flags) (ap is_static (x.turned i).0 ∙ static_now l.flags) (y.receiver (ap b number ∙ j))
        first_turned false i j = let w = y.plain (ap b number ∙ j) in let z = x.turned i in (w.0 ∙ z.0, w.1 ∙ z.1)

        turned_on : (s : Bool) → a l.name ≡ s → (s || b l.name) ≡ true → (n.flags ≡ flags_loosened l.flags) × (n.parameter_marks ≡ marks_loosened l.parameter_marks)
        turned_on true i e = first_turned (b l.name) i refl
        turned_on false i e = let w = y.turned (ap b number ∙ e) in let z = x.plain i in (w.0 ∙ ap flags_loosened z.0, w.1 ∙ ap marks_loosened z.1)

    class_on : (c d e : Class) → ClassStaysAlongBy R a admitted c d → ClassStaysAlongBy S b admitted d e → ClassStaysAlongBy T either admitted c e
    class_on c d e x y = record {
      rest = y.rest ∙ ap (λ (z : Class). record z { fields = e.fields; methods = e.methods }) x.rest;
      fields = λ f s. x.fields f (y.fields f s);
      methods = λ n s. let m = y.methods n s in let l = x.methods m.0 m.1.0 in (l.0, (l.1.0, method_on l.0 m.0 n l.1.1 m.1.1));
    }

  module _ (p q r : Program) (x : StaysAlongBy R admitted p q) (y : StaysAlongBy S admitted q r) where
    -- a method that the second pass makes static the first left with its receiver, so the first didn't make it static
    first_had : (n : ℕ) (h : HadReceiver q n) → (x.made n ≡ false) × HadReceiver p n
    first_had n h = (plain_number (x.made m.0.name) refl, record { class = c.0; method = m.0; is_class = c.1.0; is_method = m.1.0; number = number ∙ h.number; receiver = was (x.made m.0.name) refl })
      where
        c : (k : Class) × (Stands p.classes k × ClassStaysAlongBy R x.made admitted k h.class)
        c = x.classes h.class h.is_class

        m : (l : Method) × (Stands c.0.methods l × MethodStaysAlongBy R x.made admitted l h.method)
        m = c.1.1.methods h.method h.is_method

        number : m.0.name ≡ h.method.name
        number = sym (ap (λ (z : Method). z.name) m.1.1.rest)

        wasnt : {A : Type 0} → x.made m.0.name ≡ true → A
        wasnt i = clash (is_static h.method.flags) (ap is_static (m.1.1.turned i).0 ∙ static_now m.0.flags) h.receiver

        plain_number : (s : Bool) → x.made m.0.name ≡ s → x.made n ≡ false
        plain_number true i = wasnt i
        plain_number false i = ap x.made (sym (number ∙ h.number)) ∙ i

        was : (s : Bool) → x.made m.0.name ≡ s → is_static m.0.flags ≡ false
        was true i = wasnt i
        was false i = ap is_static (sym (m.1.1.plain i).0) ∙ h.receiver

    named_on : (n : ℕ) (m : MethodName) → slice_get p.methods n ≡ Some m → (s t : Bool) → x.made n ≡ s → y.made n ≡ t → (s || t) ≡ true → (z : MethodName) × ((slice_get r.methods n ≡ Some z) × NameMade p r m z)
    named_on n m e true true i j f = clash (x.made n) i (first_had n (y.had n j)).0
    named_on n m e true false i j f =
        let z = x.named n m e i in
        (z.0, (y.names n z.0 z.1.0 j, record { class = z.1.1.class; name = z.1.1.name; proto = λ old g. let w = z.1.1.proto old g in (w.0, (y.protos z.0.proto w.0 w.1.0, w.1.1)) }))
    named_on n m e false true i j f =
        let z = y.named n m (x.names n m e i) j in
        (z.0, (z.1.0, record { class = z.1.1.class; name = z.1.1.name; proto = λ old g. z.1.1.proto old (x.protos m.proto old g) }))
    named_on n m e false false i j f = not_made f

    had_on : (n : ℕ) (s : Bool) → x.made n ≡ s → (s || y.made n) ≡ true → HadReceiver p n
    had_on n true i f = x.had n i
    had_on n false i f = (first_had n (y.had n f)).1

    along_then_by : StaysAlongBy T admitted p r
    along_then_by = record {
      made = λ n. x.made n || y.made n;
      rest = y.rest ∙ ap (λ (z : Program). record z { strings = r.strings; protos = r.protos; methods = r.methods; classes = r.classes }) x.rest;
      strings = λ n t e. y.strings n t (x.strings n t e);
      protos = λ n u e. y.protos n u (x.protos n u e);
      long = y.long ∙ x.long;
      names = λ n m e f. let g = neither_of (x.made n) (y.made n) f in y.names n m (x.names n m e g.0) g.1;
      named = λ n m e f. named_on n m e (x.made n) (y.made n) refl refl f;
      had = λ n f. had_on n (x.made n) refl f;
      classes = λ d s. let c = y.classes d s in let b = x.classes c.0 c.1.0 in (b.0, (b.1.0, class_on x.made y.made b.0 c.0 d b.1.1 c.1.1));
    }

module _ (admitted : List Bool) (p q r : Program) where
  pub along_then : StaysAlong admitted p q → StaysAlong admitted q r → StaysAlong admitted p r
  along_then = along_then_by NoMoreRegisters NoMoreRegisters NoMoreRegisters no_more_on admitted p q r

  pub along_behind : StaysAlong admitted p q → StaysAlongInlined admitted q r → StaysAlongInlined admitted p r
  along_behind = along_then_by NoMoreRegisters FewRegisters FewRegisters few_behind admitted p q r

  pub along_before : StaysAlongInlined admitted p q → StaysAlong admitted q r → StaysAlongInlined admitted p r
  along_before = along_then_by FewRegisters NoMoreRegisters FewRegisters few_before admitted p q r
