-- A program with copies at sites by number is by name one with accepted calls inlined.
use Rattle.std.proofs.Common.{◌≡◌, ℕ, zero, suc, ◌+◌, ◌≤◌, true, true≢false, List, [], ◌∷◌, Option, Some, None, refl, sym, ap, ◌∙◌, subst, arith}
use Rattle.std.specs.Prelude.{if◌then◌else◌, is_some, slice_get, Contains}
use Rattle.std.specs.Option.{option_map}
use Rattle.lemmas.proofs.Lists.{contains_here, contains_there, get_map}
use Rattle.lemmas.proofs.Options.{none_some, some_same}
use Rattle.program_model.specs.ProgramRules.{is_well_formed}
use Rattle.program_model.specs.declared.body.Body.{Body}
use Rattle.program_model.specs.declared.program.Class.{Class}
use Rattle.program_model.specs.declared.program.Method.{Method}
use Rattle.program_model.specs.declared.program.MethodAt.{MethodAt}
use Rattle.program_model.specs.declared.program.Program.{Program}
use Rattle.hierarchy.specs.Shapes.{IsResolved}
use Rattle.hierarchy.specs.declared.build.Hierarchy.{Hierarchy}
use Rattle.facts.specs.declared.facts.Facts.{Facts}
use Rattle.dalvik_defs.specs.Face.{bodies_of}
use Rattle.dalvik_defs.specs.Naming.{form_of, body_of, named, named_class, named_method}
use Rattle.dalvik_defs.specs.Silence.{key_in}
use Rattle.dalvik_defs.specs.declared.names.MethodKey.{MethodKey}
use Rattle.dalvik_defs.specs.declared.forms.Form.{Form}
use Rattle.dalvik_defs.specs.declared.program.NamedBody.{NamedBody}
use Rattle.dalvik_defs.specs.declared.program.NamedProgram.{NamedProgram}
use Rattle.pass_defs.specs.Typed.{IsTyped}
use Rattle.pass_defs.specs.Walks.{form_at, IsReached}
use Rattle.pass_defs.specs.Inlined.{callee_of, is_among, callee_at, taken_by, inlined}
use Rattle.pass_defs.specs.Inlined as by_name
use Rattle.program_laws.specs.Results.{TakesInPlace}
use Rattle.program_laws.proofs.WellFormed.{well_placed}
use Rattle.program_laws.specs.Others.{OtherBodies}
use Rattle.program_laws.specs.Numbered.{OtherNumberedBodies}
use Rattle.program_laws.proofs.Found.{others_found}
use Rattle.program_laws.proofs.Named.{others_named}
use Rattle.removal_law.proofs.CallsLeft.{body_in}
use Rattle.removal_law.proofs.Lists.{contained}
use Rattle.run_laws.proofs.Here.{into_map}
use Rattle.inline_law.specs.Accepted.{Suits, AreAccepted}
use Rattle.inline_law.specs.Entered.{sites_in}
use Rattle.inline_law.specs.Sound.{IsSoundCallee}
use Rattle.inline_law.specs.Inlining.{IsInlined, AreInlined, Neither, Both}
use Rattle.inline_law.proofs.Found.{at_site, sound_callee, reading}
use Rattle.inline_law.proofs.Meets.{inlined_is}
use Rattle.inline_law.proofs.Programs.{unchanged}
use Rattle.splice.specs.declared.callee.Callee.{Callee}
use Rattle.splice.specs.Callees.{chosen_at}
use Rattle.calls_kept.specs.Copied.{accepted_by, IsWithin, AreCopied}
use Rattle.calls_kept.proofs.Chosen.{among}
use Rattle.calls_kept.proofs.Pieces.{spliced_named}
use Rattle.calls_kept.specs.Sites.{IsSite, IsSoundSite}
use Rattle.calls_kept.proofs.InlinedBodies.{is_code, is_within}
use Rattle.calls_kept.proofs.Sites.{found_callee, site_found, copied, sound_site}
use Rattle.calls_kept.specs.Spliced.{AreSites, SplicesSo}
use Rattle.calls_kept.specs.Spliced as by_number

pub contains_at : {A : Type 0} (xs : List A) (n : ℕ) (x : A) → slice_get xs n ≡ Some x → Contains xs x
contains_at [] n x e = none_some x e
contains_at (y ∷ xs) zero x e = subst (Contains (y ∷ xs)) (some_same y x e) (contains_here y xs)
contains_at (y ∷ xs) (suc n) x e = contains_there y xs x (contains_at xs n x e)

-- the code of a method by name, the same or with accepted calls inlined
pub data SplicesNamed (p : Program) (h : Hierarchy) (facts : Facts) (k : MethodKey) : Option NamedBody → Option NamedBody → Type 0 where
  NoCode : SplicesNamed p h facts k None None
  Same : (b : Body) → b.ins ≤ b.registers → SplicesNamed p h facts k (Some (body_of p b)) (Some (body_of p b))
  Spliced : (at : MethodAt) (c : Class) (m : Method) (b : Body) (chosen : List (Option Callee)) → slice_get p.classes at.class ≡ Some c → slice_get c.methods at.place ≡ Some m → m.body ≡ Some b
      → k ≡ key_in (named_class p c) (named_method p m) → AreSites p h facts at m b chosen
      → SplicesNamed p h facts k (Some (body_of p b)) (Some (inlined (named p) k (named_method p m) (body_of p b) (accepted_by chosen)))

module _ (p : Program) (h : Hierarchy) (facts : Facts) where
  -- the accepted positions of a method's code
  abbrev pub positions : (k : MethodKey) (x y : Option NamedBody) → SplicesNamed p h facts k x y → List ℕ
  positions k _ _ NoCode = []
  positions k _ _ (Same b room) = []
  positions k _ _ (Spliced at c m b chosen ic im has key s) = accepted_by chosen

module _ (p : Program) (h : Hierarchy) (w : is_well_formed p ≡ true) (resolved : IsResolved p h) (typed : IsTyped (named p)) (facts : Facts) where
  module _ (at : MethodAt) (c : Class) (m : Method) (b : Body) (chosen : List (Option Callee)) (is_class : slice_get p.classes at.class ≡ Some c) (is_method : slice_get c.methods at.place ≡ Some m) (has : m.body ≡ Some b)
      (s : AreSites p h facts at m b chosen) where
    few : b.registers ≤ 65535
    few = let f = (s.each s.some s.first s.chosen_there).few in omega (arith, f)

    pub all_copied : AreCopied p b chosen
    all_copied n y e = copied p h w resolved typed facts at c m b is_class is_method has n y (s.each n y e)

    pub within : IsWithin b
    within = is_within p w at.class at.place c m b is_class is_method has few

    -- ---- what the law asks

    abbrev K : MethodKey
    K = key_in (named_class p c) (named_method p m)

    abbrev A : List ℕ
    A = accepted_by chosen

    class_in : Contains (named p).classes (named_class p c)
    class_in = into_map (named_class p) p.classes c (contains_at p.classes at.class c is_class)

    method_in : Contains (named_class p c).methods (named_method p m)
    method_in = into_map (named_method p) c.methods m (contains_at c.methods at.place m is_method)

    in_place : TakesInPlace (body_of p b)
    in_place = well_placed p w (named_class p c) (named_method p m) (body_of p b) class_in method_in (ap (option_map (body_of p)) has)

    -- a method is chosen at each accepted position
    record IsChosen (n : ℕ) : Type 0 where
      callee : Callee
      there : chosen_at chosen n ≡ Some callee

    chosen_there : (n : ℕ) → is_among A n ≡ true → IsChosen n
    chosen_there n e = by (chosen_at chosen n) refl (sym (among chosen n) ∙ e)
      where
        by : (o : Option Callee) → chosen_at chosen n ≡ o → is_some o ≡ true → IsChosen n
        by None i j = absurd (true≢false (sym j))
        by (Some y) i j = record { callee = y; there = i }

    sound_at : (n : ℕ) → is_among A n ≡ true → IsSoundSite p K b n
    sound_at n e = let y = chosen_there n e in sound_site p h w resolved typed facts at c m b is_class is_method has n y.callee (s.each n y.callee y.there)

    are_accepted : AreAccepted (named p) (bodies_of (named p)) (reading (named p)) K (body_of p b) A
    are_accepted = record {
      room = (is_code p w at.class at.place c m b is_class is_method has).room;
      in_place = in_place;
      sites = λ n e. ap is_some (sound_at n e).finds;
      callees = λ n x y e i. let f = at_site (named p) (body_of p b) A n y i in let z = sound_at n f.0 in
          sound_callee (named p) K (body_of p b) A n x y e i (subst (λ (q : by_name.Callee). IsSoundCallee K q) (some_same z.callee y (sym z.finds ∙ f.1)) z.sound);
      suits = λ n j y i r. let f = at_site (named p) (body_of p b) A n y i in let z = sound_at n f.0 in suits_there n j y z (some_same z.callee y (sym z.finds ∙ f.1)) r;
    }
      where
        suits_there : (n j : ℕ) (y : by_name.Callee) (z : IsSoundSite p K b n) → z.callee ≡ y → IsReached y.body j → (f : Form) × ((form_at y.body j ≡ Some f) × Suits (taken_by (form_at (body_of p b) (n + 1))) f)
        suits_there n j y z e = subst (λ (q : by_name.Callee). IsReached q.body j → (f : Form) × ((form_at q.body j ≡ Some f) × Suits (taken_by (form_at (body_of p b) (n + 1))) f)) e (z.suits j)

    pub is_inlined : (q : NamedProgram) → IsInlined (bodies_of (named p)) (reading (named p)) K (callee_at (named p) (body_of p b) A) (body_of p b) (inlined (named p) K (named_method p m) (body_of p b) A)
    is_inlined q = inlined_is (named p) K (named_method p m) (body_of p b) A (bodies_of (named p)) (bodies_of q) (reading (named p)) are_accepted

    -- ---- what stands at a site

    pub record SiteThere (n : ℕ) (y : by_name.Callee) : Type 0 where
      pub callee : Callee
      pub there : chosen_at chosen n ≡ Some callee
      pub same : y ≡ found_callee p h w resolved typed facts at c m b is_class is_method has n callee (s.each n callee there)

    pub site_there : (n : ℕ) (y : by_name.Callee) → callee_at (named p) (body_of p b) A n ≡ Some y → SiteThere n y
    site_there n y e =
        let f = at_site (named p) (body_of p b) A n y e in
        let z = chosen_there n f.0 in
        let q = s.each n z.callee z.there in
        record {
          callee = z.callee;
          there = z.there;
          same = some_same y (found_callee p h w resolved typed facts at c m b is_class is_method has n z.callee q)
              (sym f.1 ∙ ap (callee_of (named p)) (get_map (form_of p) b.insns n ∙ ap (option_map (form_of p)) q.here) ∙ site_found p h w resolved typed facts at c m b is_class is_method has n z.callee q);
        }

  -- ---- programs

  code_named : (k : MethodKey) (x y : Option Body) → SplicesSo p h facts k x y → SplicesNamed p h facts k (option_map (body_of p) x) (option_map (body_of p) y)
  code_named k _ _ by_number.NoCode = NoCode
  code_named k _ _ (by_number.Same b room) = Same b room
  code_named k _ _ (by_number.Spliced at c m b chosen ic im has key s) =
      subst (λ (d : NamedBody). SplicesNamed p h facts k (Some (body_of p b)) (Some d)) (sym (spliced_named p k (named_method p m) m b chosen (within at c m b chosen ic im has s) (all_copied at c m b chosen ic im has s)))
      (Spliced at c m b chosen ic im has key s)

  module _ (q : Program) (others : OtherNumberedBodies (SplicesSo p h facts) p q) where
    pub named_others : OtherBodies (SplicesNamed p h facts) (named p) (named q)
    named_others = others_named (SplicesSo p h facts) (SplicesNamed p h facts) p code_named q others

    pub code_at : (k : MethodKey) → SplicesNamed p h facts k (bodies_of (named p) k) (bodies_of (named q) k)
    code_at k = others_found (SplicesNamed p h facts) (λ k. NoCode) (named p) (named q) named_others k

    each_body : (k : MethodKey) (x y : Option NamedBody) (z : SplicesNamed p h facts k x y) → bodies_of (named p) k ≡ x → AreInlined (bodies_of (named p)) (reading (named p)) k (sites_in (named p) (positions p h facts k x y z) x) x y
    each_body k _ _ NoCode e = Neither
    each_body k _ _ (Same b room) e = let t = body_in (named p) k (body_of p b) e in
        Both (body_of p b) (body_of p b) (unchanged (bodies_of (named p)) (reading (named p)) k (sites_in (named p) [] (Some (body_of p b))) (body_of p b) (λ n. refl)
        (well_placed p w t.class t.method (body_of p b) (contained t.class (named p).classes t.class_in) (contained t.method t.class.methods t.method_in) t.body) room)
    each_body k _ _ (Spliced at c m b chosen ic im has key s) e =
        Both (body_of p b) (inlined (named p) k (named_method p m) (body_of p b) (accepted_by chosen))
        (subst (λ (i : MethodKey). IsInlined (bodies_of (named p)) (reading (named p)) i (callee_at (named p) (body_of p b) (accepted_by chosen)) (body_of p b) (inlined (named p) i (named_method p m) (body_of p b) (accepted_by chosen))) (sym key)
        (is_inlined at c m b chosen ic im has s (named q)))

    pub all_inlined : (k : MethodKey) → AreInlined (bodies_of (named p)) (reading (named p)) k (sites_in (named p) (positions p h facts k (bodies_of (named p) k) (bodies_of (named q) k) (code_at k)) (bodies_of (named p) k)) (bodies_of (named p) k) (bodies_of (named q) k)
    all_inlined k = each_body k (bodies_of (named p) k) (bodies_of (named q) k) (code_at k) refl

    -- ---- what stands at a site of a key

    pub record AtSite (k : MethodKey) (n : ℕ) (y : by_name.Callee) : Type 0 where
      pub at : MethodAt
      pub class : Class
      pub method : Method
      pub body : Body
      pub chosen : List (Option Callee)
      pub is_class : slice_get p.classes at.class ≡ Some class
      pub is_method : slice_get class.methods at.place ≡ Some method
      pub has : method.body ≡ Some body
      pub is_key : k ≡ key_in (named_class p class) (named_method p method)
      pub found : bodies_of (named p) k ≡ Some (body_of p body)
      pub callee : Callee
      pub site : IsSite p h facts at method body n callee
      pub same : y ≡ found_callee p h w resolved typed facts at class method body is_class is_method has n callee site

    site_of : (k : MethodKey) (n : ℕ) (y : by_name.Callee) (x d : Option NamedBody) (z : SplicesNamed p h facts k x d) → bodies_of (named p) k ≡ x → sites_in (named p) (positions p h facts k x d z) x n ≡ Some y → AtSite k n y
    site_of k n y _ _ NoCode e i = none_some y i
    site_of k n y _ _ (Same b room) e i = none_some y i
    site_of k n y _ _ (Spliced at c m b chosen ic im has key s) e i =
        let t = site_there at c m b chosen ic im has s n y i in
        record {
          at = at;
          class = c;
          method = m;
          body = b;
          chosen = chosen;
          is_class = ic;
          is_method = im;
          has = has;
          is_key = key;
          found = e;
          callee = t.callee;
          site = s.each n t.callee t.there;
          same = t.same;
        }

    abbrev pub sites : MethodKey → ℕ → Option by_name.Callee
    sites k = sites_in (named p) (positions p h facts k (bodies_of (named p) k) (bodies_of (named q) k) (code_at k)) (bodies_of (named p) k)

    pub at_a_site : (k : MethodKey) (n : ℕ) (y : by_name.Callee) → sites k n ≡ Some y → AtSite k n y
    at_a_site k n y e = site_of k n y (bodies_of (named p) k) (bodies_of (named q) k) (code_at k) refl e
