-- A table of shut methods holds what it says of a program with other bodies that say no more.
use Rattle.std.proofs.Common.{◌≡◌, ℕ, Bool, true, false, List, [], ◌∷◌, refl, sym, ap, ◌∙◌}
use Rattle.std.specs.Prelude.{◌&&◌, ◌||◌, not, if◌then◌else◌, Option, Some, None, is_some}
use Rattle.std.specs.List.{list_any}
use Rattle.std.specs.Option.{option_map}
use Rattle.lemmas.proofs.Bools.{and_both}
use Rattle.lemmas.proofs.Options.{none_some, some_same}
use Rattle.insn_set.specs.declared.ops.InvokeKind.TheVariants as call
use Rattle.dalvik_defs.specs.Names.{Text, text_eq, same_name, is_common}
use Rattle.dalvik_defs.specs.Flags.{is_interface, is_abstract}
use Rattle.dalvik_defs.specs.Under.{class_named, defines, is_own_under, is_outward}
use Rattle.dalvik_defs.specs.Find.{finds_at, is_virtual_method, is_037}
use Rattle.dalvik_defs.specs.Face.{Face, face_of}
use Rattle.dalvik_defs.specs.Outer.{Outer}
use Rattle.dalvik_defs.specs.Shut.{key_of, is_found_as, finds_it, names_outside, called_outside, is_other}
use Rattle.dalvik_defs.specs.declared.names.Signature.{Signature}
use Rattle.dalvik_defs.specs.declared.names.MethodKey.{MethodKey}
use Rattle.dalvik_defs.specs.declared.forms.Form.{Form}
use Rattle.dalvik_defs.specs.declared.forms.Form.TheVariants as form
use Rattle.dalvik_defs.specs.declared.tables.Framework.{Framework}
use Rattle.dalvik_defs.specs.declared.program.NamedBody.{NamedBody}
use Rattle.dalvik_defs.specs.declared.program.NamedMethod.{NamedMethod}
use Rattle.dalvik_defs.specs.declared.program.NamedClass.{NamedClass}
use Rattle.dalvik_defs.specs.declared.program.NamedProgram.{NamedProgram}
use Rattle.pass_defs.specs.Live.{is_concrete}
use Rattle.program_laws.specs.Bodies.{changed}
use Rattle.program_laws.proofs.Heads.{under_same, finds_at_same}
use Rattle.program_laws.proofs.ChangedFaces.{defines_same}
use Rattle.removal_law.specs.Left.{In, here, there}
use Rattle.removal_law.specs.Reach.{is_new, makes_new, may_be_made, ShutsHold}
use Rattle.removal_law.proofs.Lists.{clash, and_left, and_behind}
use Rattle.removal_law.proofs.Outward.{any_here}
use Rattle.removal_law.proofs.ShutLeft.{any_code, some_code}
use Rattle.program_laws.specs.Others.{Codes, Pairwise, OtherMethod, OtherClass, OtherBodies}
use Rattle.program_laws.proofs.Faces.{blank, blank_coded, program_blank, others_face}
use Rattle.program_laws.specs.Said.{Said, Quiet, called, said, any_said, SaysNoMore}
use Rattle.program_laws.proofs.Tests.{says_new, says_outside, new_said, outside_said, any_alike}

-- the item that another one of related lists stands for
pub partner : {A : Type 0} (R : A → A → Type 0) (xs ys : List A) → Pairwise R xs ys → (y : A) → In y ys → (x : A) × (In x xs × R x y)
partner R [] [] r y i = elim i [ ]
partner R [] (z ∷ ys) r y i = absurd r
partner R (x ∷ xs) [] r y i = absurd r
partner R (x ∷ xs) (y ∷ ys) r _ (here zs) = (x, (here xs, r.0))
partner R (x ∷ xs) (z ∷ ys) r y (there u zs i) = let w = partner R xs ys r.1 y i in (w.0, (there x xs w.1.0, w.1.1))

-- What matters alone is that the program as a whole says no more.
module _ (R : Codes) (p q : NamedProgram) (o : Outer) (others : OtherBodies R p q)
    (was_said : (test : Said → Bool) → test Quiet ≡ false → any_code q (λ x. test (said p x)) ≡ true → any_code p (λ x. test (said p x)) ≡ true) where
  same_blank : changed blank q ≡ changed blank p
  same_blank = program_blank R p q others

  bare : Framework
  bare = record { rows = [] }

  faces : face_of q bare ≡ face_of p bare
  faces = others_face R p q others bare

  -- ---- what is the same

  finds_same : (t : Text) (k : MethodKey) → finds_at q t k ≡ finds_at p t k
  finds_same t k = sym (finds_at_same blank q blank_coded t k) ∙ ap (λ z. finds_at z t k) same_blank ∙ finds_at_same blank p blank_coded t k

  own_under_same : (t u : Text) → is_own_under q t u ≡ is_own_under p t u
  own_under_same t u = ap (λ f. f t u) (sym (under_same blank q) ∙ ap is_own_under same_blank ∙ under_same blank p)

  outward_same : (t : Text) → is_outward q t ≡ is_outward p t
  outward_same t = ap (λ (f : Face). f.outward t) faces

  flags_same : (t : Text) → option_map (λ (c : NamedClass). c.flags) (class_named q t) ≡ option_map (λ (c : NamedClass). c.flags) (class_named p t)
  flags_same t = ap (λ (f : Face). f.flags t) faces

  defined_same : (t : Text) → defines q t ≡ defines p t
  defined_same t = ap (λ f. f t) (sym (defines_same blank q) ∙ ap defines same_blank ∙ defines_same blank p)

  abbrev concrete_by : Option ℕ → Bool
  concrete_by x = elim x as (λ x. Bool) [ Some n ↦ not (is_interface n) && not (is_abstract n) | None ↦ false ]

  concrete_flags : (x : Option NamedClass) → elim x as (λ x. Bool) [ Some c ↦ not (is_interface c.flags) && not (is_abstract c.flags) | None ↦ false ] ≡ concrete_by (option_map (λ (c : NamedClass). c.flags) x)
  concrete_flags None = refl
  concrete_flags (Some c) = refl

  concrete_same : (t : Text) → is_concrete q t ≡ is_concrete p t
  concrete_same t = concrete_flags (class_named q t) ∙ ap concrete_by (flags_same t) ∙ sym (concrete_flags (class_named p t))

  version_same : q.version ≡ p.version
  version_same = ap (λ (x : NamedProgram). x.version) others.same

  -- ---- what is said

  -- tests of forms that go by what they say
  test_code : (r : NamedProgram) (f : Form → Bool) (test : Said → Bool) → ((x : Form) → f x ≡ test (said p x)) → any_code r f ≡ any_code r (λ x. test (said p x))
  test_code r f test h = any_alike (λ (c : NamedClass). list_any (λ (m : NamedMethod). with_body f m.body) c.methods) (λ (c : NamedClass). list_any (λ (m : NamedMethod). any_said p test m.body) c.methods)
      (λ c. any_alike (λ (m : NamedMethod). with_body f m.body) (λ (m : NamedMethod). any_said p test m.body) (λ m. in_body m.body) c.methods) r.classes
    where
      with_body : (Form → Bool) → Option NamedBody → Bool
      with_body f x = elim x as (λ x. Bool) [ Some b ↦ list_any f b.forms | None ↦ false ]

      in_body : (x : Option NamedBody) → with_body f x ≡ any_said p test x
      in_body None = refl
      in_body (Some b) = any_alike f (λ x. test (said p x)) h b.forms

  was_made : (t : Text) → makes_new q t ≡ true → makes_new p t ≡ true
  was_made t e = test_code p (is_new t) (says_new t) (new_said p t)
      ∙ was_said (says_new t) refl (sym (test_code q (is_new t) (says_new t) (new_said p t)) ∙ e)

  called_same : (k : MethodKey) → called q k ≡ called p k
  called_same k = ap (λ b. if b then Quiet else Said.Calls k) (defined_same k.class)

  said_same : (x : Form) → said q x ≡ said p x
  said_same (form.NewInstance to kind) = refl
  said_same (form.Invoke call.Virtual method args) = called_same method
  said_same (form.Invoke call.Interface method args) = called_same method
  said_same (form.Invoke kind method args) = refl
  said_same x = refl

  was_called : (n : Text) (g : Signature) → called_outside q n g ≡ true → called_outside p n g ≡ true
  was_called n g e = test_code p (names_outside p n g) (says_outside n g) (outside_said p n g)
      ∙ was_said (says_outside n g) refl (sym (test_code q (names_outside q n g) (says_outside n g) (λ x. outside_said q n g x ∙ ap (says_outside n g) (said_same x))) ∙ e)

  might_be_made : (t : Text) → may_be_made q o t ≡ true → may_be_made p o t ≡ true
  might_be_made t e = and_both (is_concrete p t) (o.classes t || o.constructed t || makes_new p t) (sym (concrete_same t) ∙ and_left (is_concrete q t) (o.classes t || o.constructed t || makes_new q t) e)
      (more (o.classes t || o.constructed t) (and_behind (is_concrete q t) (o.classes t || o.constructed t || makes_new q t) e))
    where
      more : (a : Bool) → (a || makes_new q t) ≡ true → (a || makes_new p t) ≡ true
      more true h = refl
      more false h = was_made t h

  -- ---- what the table says

  module _ (holds : ShutsHold p o) where
    uncalled : (k : MethodKey) → o.shut k ≡ true → called_outside q k.name k.signature ≡ false
    uncalled k e = by (called_outside q k.name k.signature) refl
      where
        by : (b : Bool) → called_outside q k.name k.signature ≡ b → called_outside q k.name k.signature ≡ false
        by true i = clash (called_outside p k.name k.signature) (was_called k.name k.signature i) (holds.uncalled k e)
        by false i = i

    other_methods : (k : MethodKey) (m : NamedMethod) (d e : NamedClass) (x : NamedMethod) → o.shut k ≡ true → m.name ≡ k.name → m.signature ≡ k.signature → In d q.classes → finds_it q k d ≡ true
        → may_be_made q o d.name ≡ true → (is_outward q d.name || is_common k.name k.signature) ≡ true → In e q.classes → is_own_under q d.name e.name ≡ true → In x e.methods
        → is_other k.class m e x ≡ true → (o.methods (key_of e x) || o.shut (key_of e x)) ≡ true
    other_methods k m d e x shut a b d_in finds made open_to e_in under stands other =
        let d0 = partner (OtherClass R) p.classes q.classes others.classes d d_in in
        let e0 = partner (OtherClass R) p.classes q.classes others.classes e e_in in
        let x0 = partner (OtherMethod R e0.0) e0.0.methods e.methods e0.1.1.methods x stands in
        let d_name : d.name ≡ d0.0.name = ap (λ (c : NamedClass). c.name) d0.1.1.same in
        let e_name : e.name ≡ e0.0.name = ap (λ (c : NamedClass). c.name) e0.1.1.same in
        let x_name : x.name ≡ x0.0.name = ap (λ (y : NamedMethod). y.name) x0.1.1.same in
        let x_signature : x.signature ≡ x0.0.signature = ap (λ (y : NamedMethod). y.signature) x0.1.1.same in
        let x_flags : x.flags ≡ x0.0.flags = ap (λ (y : NamedMethod). y.flags) x0.1.1.same in
        let key_x : key_of e x ≡ key_of e0.0 x0.0 = ap (λ t. record { class = t; name = x.name; signature = x.signature }) e_name
        ∙ ap (λ t. record { class = e0.0.name; name = t; signature = x.signature }) x_name ∙ ap (λ t. record { class = e0.0.name; name = x0.0.name; signature = t }) x_signature in
        let is_it : is_other k.class m e x ≡ is_other k.class m e0.0 x0.0 =
        ap (λ (y : NamedMethod). same_name y.name y.signature m.name m.signature && is_virtual_method y && is_some x.body && not (text_eq e.name k.class)) x0.1.1.same
        ∙ ap (λ z. same_name x0.0.name x0.0.signature m.name m.signature && is_virtual_method x0.0 && z && not (text_eq e.name k.class)) x0.1.1.coded
        ∙ ap (λ t. same_name x0.0.name x0.0.signature m.name m.signature && is_virtual_method x0.0 && is_some x0.0.body && not (text_eq t k.class)) e_name in
        ap (λ z. o.methods z || o.shut z) key_x
        ∙ holds.others k m d0.0 e0.0 x0.0 shut a b d0.1.0
        (ap (is_found_as k) (ap (λ t. finds_at p t k) (sym d_name) ∙ sym (finds_same d.name k)) ∙ finds)
        (ap (may_be_made p o) (sym d_name) ∙ might_be_made d.name made)
        (ap (λ t. is_outward p t || is_common k.name k.signature) (sym d_name) ∙ ap (λ z. z || is_common k.name k.signature) (sym (outward_same d.name)) ∙ open_to)
        e0.1.0 (ap (λ t. is_own_under p t e0.0.name) (sym d_name) ∙ ap (is_own_under p d.name) (sym e_name) ∙ sym (own_under_same d.name e.name) ∙ under)
        x0.1.0 (sym is_it ∙ other)

    plain : (k : MethodKey) (c : NamedClass) → is_037 q.version ≡ true → o.shut k ≡ true → class_named q k.class ≡ Some c → is_interface c.flags ≡ false
    plain k c v e i = by (class_named p k.class) refl (sym (ap (option_map (λ (c : NamedClass). c.flags)) i) ∙ flags_same k.class)
      where
        by : (x : Option NamedClass) → class_named p k.class ≡ x → Some c.flags ≡ option_map (λ (c : NamedClass). c.flags) x → is_interface c.flags ≡ false
        by None j h = none_some c.flags (sym h)
        by (Some d) j h = ap is_interface (some_same c.flags d.flags h) ∙ holds.plain k d (sym (ap is_037 version_same) ∙ v) e j

    pub other_holds : ShutsHold q o
    other_holds = record { uncalled = uncalled; others = other_methods; plain = plain }

-- where the code of each method says no more, the program doesn't
said_before : (p q : NamedProgram) → OtherBodies (SaysNoMore p) p q → (test : Said → Bool) → test Quiet ≡ false → any_code q (λ x. test (said p x)) ≡ true → any_code p (λ x. test (said p x)) ≡ true
said_before p q others test quiet e =
    let w = some_code q (λ x. test (said p x)) e in
    let c = partner (OtherClass (SaysNoMore p)) p.classes q.classes others.classes w.class w.class_in in
    let m = partner (OtherMethod (SaysNoMore p) c.0) c.0.methods w.class.methods c.1.1.methods w.method w.stands in
    any_here (λ (c : NamedClass). list_any (λ (m : NamedMethod). any_said p test m.body) c.methods) c.0 p.classes c.1.0
    (any_here (λ (m : NamedMethod). any_said p test m.body) m.0 c.0.methods m.1.0
    (m.1.1.related test quiet (ap (any_said p test) w.coded ∙ any_here (λ x. test (said p x)) w.form w.body.forms w.says w.passes)))

pub shuts_kept : (p q : NamedProgram) (o : Outer) → OtherBodies (SaysNoMore p) p q → ShutsHold p o → ShutsHold q o
shuts_kept p q o others holds = other_holds (SaysNoMore p) p q o others (said_before p q others) holds
