-- The framework enters the same methods on the same objects in what is left of a program.
use Rattle.std.proofs.Common.{◌≡◌, Bool, true, false, refl, sym, ap, ◌∙◌, inl, inr}
use Rattle.std.specs.Prelude.{◌&&◌, ◌||◌, not, Option, Some, None, is_some, filter, find}
use Rattle.std.specs.Option.{option_map}
use Rattle.dalvik_defs.specs.Names.{Text, text_eq, is_common, proto_text}
use Rattle.dalvik_defs.specs.Flags.{is_virtual}
use Rattle.dalvik_defs.specs.Under.{class_named, is_under, is_outward}
use Rattle.dalvik_defs.specs.Find.{Found, found_in as found_of, Search, Nothing, finds_at}
use Rattle.dalvik_defs.specs.Face.{Face, face_of, finds_virtually, declared_in}
use Rattle.dalvik_defs.specs.Outer.{Outer}
use Rattle.dalvik_defs.specs.Legal.{is_found, calls_back, keeper_above, answers_kept, may_reach}
use Rattle.dalvik_defs.specs.Silence.{key_in}
use Rattle.dalvik_defs.specs.declared.names.MethodKey.{MethodKey}
use Rattle.dalvik_defs.specs.declared.tables.Framework.{Framework}
use Rattle.dalvik_defs.specs.declared.program.NamedMethod.{NamedMethod}
use Rattle.dalvik_defs.specs.declared.program.NamedClass.{NamedClass}
use Rattle.dalvik_defs.specs.declared.program.NamedProgram.{NamedProgram}
use Rattle.pass_defs.specs.Live.{Family, Conditions, IsClosedFamily, KeepsAbove}
use Rattle.removal_law.specs.Left.{left_of, NamesNone}
use Rattle.removal_law.specs.Agree.{IsOpen, AgreeOnDeclared, sieved}
use Rattle.removal_law.specs.Reach.{OkType, MadeType, LiveMethod, IsRegular, IsSoundCode, IsSoundTable, is_idle}
use Rattle.removal_law.proofs.Lists.{In, and_left, found_in}
use Rattle.removal_law.proofs.Classes.{Kept}
use Rattle.removal_law.proofs.Under.{under_same}
use Rattle.removal_law.proofs.Trees.{class_name, defined, defines_same, outward_left}
use Rattle.removal_law.proofs.Searches.{at_left}
use Rattle.removal_law.proofs.Declared.{and_none, some_defines, ok_kept, method_kept, barred, at_same, keepers_live, keepers_same, declared_live, declared_dead, declared_none, declared_undefined}

module _ (p : NamedProgram) (o : Outer) (kept : Conditions) (s : Family) (f : Framework) (closed : IsClosedFamily p o kept s) (regular : IsRegular p) (code : IsSoundCode p) (table : IsSoundTable p o)
    (none : NamesNone p f) where
  abbrev q : NamedProgram
  q = left_of s p

  abbrev F : Face
  F = face_of p f

  abbrev G : Face
  G = sieved (is_idle p) (face_of (left_of s p) f)

  above : KeepsAbove p s
  above = closed.above

  kept_of : (t : Text) → OkType p s t → Kept s p t
  kept_of = ok_kept p o kept s f closed regular code table none

  shut_closed : (a b c d : Bool) → b ≡ false → (a && b && c && d) ≡ false
  shut_closed a b c d e = ap (λ x. x && c && d) (and_none a b e)

  module _ (c : NamedClass) (m : NamedMethod) (named : class_named p c.name ≡ Some c) (stands : In m c.methods) (live : s.methods (key_in c m) ≡ true) where
    abbrev k0 : MethodKey
    k0 = key_in c m

    abbrev found0 : Found
    found0 = found_of c m

    abbrev may_be : NamedProgram → Text → Bool
    may_be r t = is_outward r t || is_common m.name m.signature

    abbrev given_by : NamedProgram → Bool → Text → Search
    given_by r b t = elim b as (λ b. Search) [ true ↦ finds_at r t k0 | false ↦ Nothing ]

    abbrev test_of : NamedProgram → Text → Bool
    test_of r t = is_some (class_named r t) && is_under r f t c.name

    module _ (coded : is_some m.body ≡ true) (t : Text) (ok : OkType p s t) (made : MadeType p o s t) where
      there_same : is_some (class_named q t) ≡ is_some (class_named p t)
      there_same = some_defines p o kept s f closed regular code table none c m named stands q t ∙ defines_same p s above t (kept_of t ok) ∙ sym (some_defines p o kept s f closed regular code table none c m named stands p t)

      test_same : test_of p t ≡ test_of q t
      test_same = ap (λ b. b && is_under p f t c.name) (sym there_same) ∙ ap (λ b. is_some (class_named q t) && b) (under_same p f none s above t c.name ok)

      found_same : o.methods k0 ≡ false → o.shut k0 ≡ false → may_be p t ≡ true → is_found k0 (finds_virtually p f t k0) ≡ is_found k0 (finds_virtually q f t k0)
      found_same free unshut open_to = ap (λ b. is_found k0 (given_by p b t)) test_same ∙ by (test_of q t) refl
        where
          by : (b : Bool) → test_of q t ≡ b → is_found k0 (given_by p b t) ≡ is_found k0 (given_by q b t)
          by true e = at_same p o kept s f closed regular code table none c m named stands live coded t ok made
              (sym (some_defines p o kept s f closed regular code table none c m named stands p t) ∙ and_left (is_some (class_named p t)) (is_under p f t c.name) (test_same ∙ e)) free unshut open_to
          by false e = refl

      may_same : may_be p t ≡ may_be q t
      may_same = ap (λ b. b || is_common m.name m.signature) (sym (outward_left p s above regular t (kept_of t ok)))

      abbrev virtual0 : Bool
      virtual0 = is_virtual m.flags m.name

      back_same : o.methods k0 ≡ false → calls_back F o t found0 ≡ calls_back G o t found0
      back_same free = by (o.shut k0) refl
        where
          opened : o.shut k0 ≡ false → (b : Bool) → may_be p t ≡ b → calls_back F o t found0 ≡ calls_back G o t found0
          opened unshut true e = ap (λ b. virtual0 && not (o.shut k0) && b && may_be p t) (found_same free unshut e) ∙ ap (λ b. virtual0 && not (o.shut k0) && is_found k0 (finds_virtually q f t k0) && b) may_same
          opened unshut false e = and_none (virtual0 && not (o.shut k0) && is_found k0 (finds_virtually p f t k0)) (may_be p t) e
              ∙ sym (and_none (virtual0 && not (o.shut k0) && is_found k0 (finds_virtually q f t k0)) (may_be q t) (sym may_same ∙ e))

          by : (b : Bool) → o.shut k0 ≡ b → calls_back F o t found0 ≡ calls_back G o t found0
          by true e = shut_closed virtual0 (not (o.shut k0)) (is_found k0 (finds_virtually p f t k0)) (may_be p t) (ap not e)
              ∙ sym (shut_closed virtual0 (not (o.shut k0)) (is_found k0 (finds_virtually q f t k0)) (may_be q t) (ap not e))
          by false e = opened e (may_be p t) refl

      -- ---- by a kept virtual method above the class

      kept_found : keeper_above F o t m.name m.signature ≡ true → is_found k0 (finds_virtually p f t k0) ≡ is_found k0 (finds_virtually q f t k0)
      kept_found e = ap (λ b. is_found k0 (given_by p b t)) test_same ∙ by (test_of q t) refl
        where
          by : (b : Bool) → test_of q t ≡ b → is_found k0 (given_by p b t) ≡ is_found k0 (given_by q b t)
          by true i = let d = sym (some_defines p o kept s f closed regular code table none c m named stands p t) ∙ and_left (is_some (class_named p t)) (is_under p f t c.name) (test_same ∙ i) in
              ap (is_found k0) (sym (at_left p s above regular (method_kept p o kept s f closed regular code table none) t k0 (kept_of t ok)
              (keepers_live p o kept s f closed regular code table none c m named stands t d made e)))
          by false i = refl

      answers_same : answers_kept F o t found0 ≡ answers_kept G o t found0
      answers_same = by (keeper_above F o t m.name m.signature) refl
        where
          same : keeper_above F o t m.name m.signature ≡ keeper_above G o t m.name m.signature
          same = keepers_same p o kept s f closed regular code table none c m named stands t ok

          by : (b : Bool) → keeper_above F o t m.name m.signature ≡ b → answers_kept F o t found0 ≡ answers_kept G o t found0
          by true e = ap (λ b. virtual0 && b && keeper_above F o t m.name m.signature) (kept_found e) ∙ ap (λ b. virtual0 && is_found k0 (finds_virtually q f t k0) && b) same
          by false e = and_none (virtual0 && is_found k0 (finds_virtually p f t k0)) (keeper_above F o t m.name m.signature) e
              ∙ sym (and_none (virtual0 && is_found k0 (finds_virtually q f t k0)) (keeper_above G o t m.name m.signature) (sym same ∙ e))

      reach_same : may_reach F o t found0 ≡ may_reach G o t found0
      reach_same = by (o.methods k0) refl
        where
          by : (b : Bool) → o.methods k0 ≡ b → may_reach F o t found0 ≡ may_reach G o t found0
          by true e = ap (λ b. b || answers_kept F o t found0 || calls_back F o t found0) e ∙ sym (ap (λ b. b || answers_kept G o t found0 || calls_back G o t found0) e)
          by false e = ap (λ b. o.methods k0 || b || calls_back F o t found0) answers_same ∙ ap (λ b. o.methods k0 || answers_kept G o t found0 || b) (back_same e)

    is_open : IsOpen (OkType p s) (MadeType p o s) (LiveMethod p s) o F G found0
    is_open = record { lives = record { live = live; defined = defined p c.name c named }; called = λ t coded ok made. reach_same coded t ok made }

  -- ---- what a class declares

  module _ (t n proto : Text) where
    abbrev Agreed : Option Found → Option Found → Type 0
    Agreed = AgreeOnDeclared (OkType p s) (MadeType p o s) (LiveMethod p s) o F G

    abbrev test : NamedMethod → Bool
    test m = text_eq m.name n && text_eq (proto_text m.signature) proto

    module _ (c : NamedClass) (e : class_named p t ≡ Some c) where
      named_c : class_named p c.name ≡ Some c
      named_c = ap (class_named p) (class_name p t c e) ∙ e

      method_case : (x : Option NamedMethod) → find test c.methods ≡ x → Agreed (option_map (found_of c) x) (declared_in q t n proto)
      method_case (Some m) i = by (s.methods (key_in c m)) refl
        where
          by : (b : Bool) → s.methods (key_in c m) ≡ b → Agreed (Some (found_of c m)) (declared_in q t n proto)
          by true l = inl (is_open c m named_c (found_in test c.methods m i).is_in l, declared_live p o kept s f closed regular code table none t n proto c e m i l)
          by false l = inr (barred p o kept s f closed regular code table none c m named_c (found_in test c.methods m i).is_in l, declared_dead p o kept s f closed regular code table none t n proto c e m i l)
      method_case None i = declared_none p o kept s f closed regular code table none t n proto c e i

    pub declared_agrees : Agreed (declared_in p t n proto) (declared_in q t n proto)
    declared_agrees = by (class_named p t) refl
      where
        by : (x : Option NamedClass) → class_named p t ≡ x → Agreed (elim x as (λ x. Option Found) [ Some c ↦ option_map (found_of c) (find test c.methods) | None ↦ None ]) (declared_in q t n proto)
        by None e = declared_undefined p o kept s f closed regular code table none t n proto e
        by (Some c) e = method_case c e (find test c.methods) refl
