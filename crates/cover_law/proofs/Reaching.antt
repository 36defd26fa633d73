-- What the framework reaches on an object of a made class: by the program's lists, or as a method that it may enter, since
-- the program calls it by a framework type, or as the framework's tables say.
use Rattle.std.proofs.Common.{◌≡◌, ℕ, Bool, true, false, true≢false, List, Option, Some, None, ◌⊎◌, inl, inr, refl, sym, ap, ◌∙◌, subst}
use Rattle.std.specs.Prelude.{◌&&◌, ◌||◌, not, find, length, Contains, is_some}
use Rattle.std.specs.List.{list_any}
use Rattle.std.specs.Option.{option_map}
use Rattle.insn_set.specs.declared.ops.InvokeKind.{InvokeKind}
use Rattle.insn_set.specs.declared.ops.InvokeKind.TheVariants as call
use Rattle.dalvik_defs.specs.Names.{Text, text_eq, object_type, same_name, proto_text}
use Rattle.dalvik_defs.specs.Face.{face_of, bodies_of, declared_in, finds_virtually}
use Rattle.dalvik_defs.specs.Find.{Found, Search, Finds, Nothing, found_in, finds_at, is_virtual_method, method_in}
use Rattle.dalvik_defs.specs.Flags.{is_static, is_private, is_special, is_virtual}
use Rattle.dalvik_defs.specs.Legal.{is_found, is_found_virtual, may_reach, answers_kept, calls_back, keeper_above}
use Rattle.dalvik_defs.specs.Outer.{Outer}
use Rattle.dalvik_defs.specs.Names.{is_common}
use Rattle.dalvik_defs.specs.Shut.{called_outside, names_outside}
use Rattle.dalvik_defs.specs.Under.{class_named, defines, is_under, is_own_under, is_outward}
use Rattle.dalvik_defs.specs.declared.forms.Form.TheVariants as form
use Rattle.dalvik_defs.specs.declared.names.MethodKey.{MethodKey}
use Rattle.dalvik_defs.specs.declared.program.NamedBody.{NamedBody}
use Rattle.dalvik_defs.specs.declared.program.NamedClass.{NamedClass}
use Rattle.dalvik_defs.specs.declared.program.NamedMethod.{NamedMethod}
use Rattle.dalvik_defs.specs.declared.program.NamedProgram.{NamedProgram}
use Rattle.dalvik_defs.specs.declared.tables.Floats.{Floats}
use Rattle.dalvik_defs.specs.declared.tables.Framework.{Framework}
use Rattle.dalvik_defs.proofs.Calm.{text_sound}
use Rattle.pass_defs.specs.Calls.{is_within}
use Rattle.run_facts.specs.Closed.{IsBound}
use Rattle.pass_defs.specs.Facts.{IsEnteredOn, finds_itself, is_called_back, answers_kept as answers_by, keeps_virtual}
use Rattle.pass_defs.specs.Live.{IsMade, KeepsAbove, everything, unconditional}
use Rattle.run_laws.proofs.Settled.{IsSettled, FindsRegularly, IsFound}
use Rattle.removal_law.specs.Left.{In, NamesNone}
use Rattle.removal_law.specs.Reach.{IsRegular, IsSoundTable, TellsProtos}
use Rattle.removal_law.proofs.CallsLeft.{is_called_outside}
use Rattle.removal_law.proofs.Climbs.{climb_under, answer_climbs}
use Rattle.removal_law.proofs.Declared.{name_same, method_same}
use Rattle.removal_law.proofs.Lists.{and_left, and_behind, contained, found_in as found_where}
use Rattle.removal_law.proofs.Outward.{Up, inside, through, object, any_here, any_where, under_up}
use Rattle.removal_law.proofs.Searches.{nothing_finds, at_in}
use Rattle.removal_law.proofs.Trees.{class_in, class_name, defined}
use Rattle.removal_law.proofs.TypedCode.{from_contained}
use Rattle.cover_law.proofs.Given.{IsDeclared, declared}
use Rattle.cover_law.proofs.Ready.{Reaches}

-- ---- tests

not_true : (b : Bool) → not b ≡ true → b ≡ false
not_true true e = absurd (true≢false (sym e))
not_true false e = refl

not_false : (b : Bool) → b ≡ false → not b ≡ true
not_false b e = ap not e

first_holds : (a b : Bool) → a ≡ true → (a || b) ≡ true
first_holds a b e = ap (λ x. x || b) e

second_holds : (a b : Bool) → b ≡ true → (a || b) ≡ true
second_holds true b e = refl
second_holds false b e = e

both_hold : (a b : Bool) → a ≡ true → b ≡ true → (a && b) ≡ true
both_hold a b e i = ap (λ x. x && b) e ∙ i

same_find : (k : MethodKey) (s : Search) → is_found k s ≡ finds_itself k s
same_find k (Finds g) = refl
same_find k s = refl

-- a class above which another one of the program stands
pub own_under : (p : NamedProgram) (f : Framework) → NamesNone p f → IsRegular p → (t u : Text) → defines p t ≡ true → defines p u ≡ true → is_under p f t u ≡ true → is_own_under p t u ≡ true
own_under p f none regular t u d e i = by (under_up p f none regular t u d i)
  where
    by : Up p f none regular (length p.classes) t u → is_own_under p t u ≡ true
    by (inside j) = j
    by (through j away) = absurd (true≢false (sym e ∙ away))
    by (object j) = absurd (true≢false (sym e ∙ ap (defines p) (text_sound u object_type j) ∙ none.object))

module _ (p : NamedProgram) (o : Outer) (f : Framework) (floats : Floats) (reg : IsSettled p) (finds : FindsRegularly p f) (regular : IsRegular p) (none : NamesNone p f) (protos : TellsProtos p) (table : IsSoundTable p o) where
  all_above : KeepsAbove p everything
  all_above = record {
    above = λ t c e h u i d. refl;
    initialisers = λ t k h e. refl;
    defaults = λ t c m v e h i j k l. refl;
  }

  abbrev key : NamedClass → NamedMethod → MethodKey
  key c m = (found_in c m).key

  class_defined : (c : NamedClass) → Contains p.classes c → defines p c.name ≡ true
  class_defined c i = defined p c.name c (reg.regular.named c i)

  -- ---- what a call in code finds

  module _ (m : MethodKey) (b : NamedBody) (kind : InvokeKind) (k : MethodKey) (args : List ℕ) (t : Text) (g : Found) (has : bodies_of p m ≡ Some b) (says : Contains b.forms (form.Invoke kind k args))
      (unbound : IsBound kind → ⊥) (made : IsMade p o unconditional t) where
    named : (kind : InvokeKind) → (IsBound kind → ⊥) → defines p k.class ≡ false → text_eq k.class object_type ≡ false → names_outside p k.name k.signature (form.Invoke kind k args) ≡ true
    named call.Virtual u d e = both_hold (same_name k.name k.signature k.name k.signature && not (defines p k.class)) (not (text_eq k.class object_type))
        (both_hold (same_name k.name k.signature k.name k.signature) (not (defines p k.class)) (name_same k.name k.signature) (not_false (defines p k.class) d)) (not_false (text_eq k.class object_type) e)
    named call.Interface u d e = both_hold (same_name k.name k.signature k.name k.signature && not (defines p k.class)) (not (text_eq k.class object_type))
        (both_hold (same_name k.name k.signature k.name k.signature) (not (defines p k.class)) (name_same k.name k.signature) (not_false (defines p k.class) d)) (not_false (text_eq k.class object_type) e)
    named call.Static u d e = absurd (u tt)
    named call.Direct u d e = absurd (u tt)
    named call.Super u d e = absurd (u tt)

    called : defines p k.class ≡ false → text_eq k.class object_type ≡ false → called_outside p k.name k.signature ≡ true
    called d e = is_called_outside p k.name k.signature m b (form.Invoke kind k args) has (from_contained b.forms (form.Invoke kind k args) says.0 says.1 says.2) (named kind unbound d e)

    module _ (x : IsFound p k g) (virtual : is_virtual g.flags g.key.name ≡ true) (at : finds_at p t k ≡ Finds g) (outward : is_outward p t ≡ true) (calls : called_outside p k.name k.signature ≡ true) (coded : g.coded ≡ true) where
      abbrev it : MethodKey
      it = key x.class x.method

      is_virtual_one : is_virtual_method x.method ≡ true
      is_virtual_one = sym (ap (λ (z : Found). is_virtual z.flags z.key.name) x.is) ∙ virtual

      same_name_as : it.name ≡ k.name
      same_name_as = x.name

      open_still : o.shut it ≡ false
      open_still = by (o.shut it) refl
        where
          by : (y : Bool) → o.shut it ≡ y → y ≡ false
          by true e = absurd (true≢false (sym calls ∙ (sym (ap (λ n. called_outside p n k.signature) x.name) ∙ sym (ap (λ q. called_outside p x.method.name q) x.signature)) ∙ table.shuts.uncalled it e))
          by false e = refl

      finds_it : finds_at p t it ≡ Finds (found_in x.class x.method)
      finds_it = ap (λ n. finds_at p t (record { class = x.class.name; name = n; signature = x.method.signature })) x.name
          ∙ ap (λ q. finds_at p t (record { class = x.class.name; name = k.name; signature = q })) x.signature
          ∙ (at ∙ ap Finds x.is)

      calls_it : is_called_back p o t it x.method ≡ true
      calls_it = both_hold (is_virtual_method x.method && not (o.shut it) && finds_itself it (finds_at p t it)) (is_outward p t || is_common it.name it.signature)
          (both_hold (is_virtual_method x.method && not (o.shut it)) (finds_itself it (finds_at p t it))
          (both_hold (is_virtual_method x.method) (not (o.shut it)) is_virtual_one (not_false (o.shut it) open_still)) (ap (finds_itself it) finds_it ∙ method_same it))
          (first_holds (is_outward p t) (is_common it.name it.signature) outward)

      climbs : is_own_under p t g.key.class ≡ true
      climbs = climb_under p everything all_above regular t g.key.class (answer_climbs p everything all_above regular k.name k.signature t g (at_in p everything all_above regular t k g at))

      opened : IsEnteredOn p o g.key
      opened = subst (λ (z : Found). IsEnteredOn p o z.key) (sym x.is) (record {
        method = x.method;
        receiver = t;
        defined = reg.regular.methods x.class x.method x.class_in x.method_in;
        held = not_true (is_static x.method.flags) (and_left (not (is_static x.method.flags)) (not (is_private x.method.flags)) (and_left (not (is_static x.method.flags) && not (is_private x.method.flags)) (not (is_special x.method.name)) is_virtual_one));
        coded = sym (ap (λ (z : Found). z.coded) x.is) ∙ coded;
        made = made;
        under = sym (ap (λ (z : Found). is_own_under p t z.key.class) x.is) ∙ climbs;
        opened = second_holds (o.methods it || answers_by p o t it x.method) (is_called_back p o t it x.method) calls_it;
      })

    virtually : finds_virtually p f t k ≡ Finds g → (is_within p t k.class ≡ true) ⊎ ((defines p k.class ≡ false) × (g.coded ≡ true → IsEnteredOn p o g.key))
    virtually at = by (is_some (class_named p t)) (is_under p f t k.class) refl refl at
      where
        there : is_some (class_named p t) ≡ true → defines p t ≡ true
        there e = cases (class_named p t) e
          where
            cases : (y : Option NamedClass) → is_some y ≡ true → (elim y as (λ y. Bool) [ Some c ↦ true | None ↦ false ]) ≡ true
            cases (Some c) i = refl
            cases None i = i

        past : is_outward p t ≡ true → defines p k.class ≡ false → finds_at p t k ≡ Finds g → (b : Bool) → text_eq k.class object_type ≡ b → (is_within p t k.class ≡ true) ⊎ ((defines p k.class ≡ false) × (g.coded ≡ true → IsEnteredOn p o g.key))
        past out away at true i = inl (first_holds (text_eq k.class object_type) (is_own_under p t k.class) i)
        past out away at false i = let x = finds.virtually t k g at in inr (away, λ c. opened x.0 x.1.0 at out (called away i) c)

        up : finds_at p t k ≡ Finds g → Up p f none regular (length p.classes) t k.class → (is_within p t k.class ≡ true) ⊎ ((defines p k.class ≡ false) × (g.coded ≡ true → IsEnteredOn p o g.key))
        up at (inside i) = inl (second_holds (text_eq k.class object_type) (is_own_under p t k.class) i)
        up at (through i away) = past i away at (text_eq k.class object_type) refl
        up at (object i) = inl (first_holds (text_eq k.class object_type) (is_own_under p t k.class) i)

        by : (x y : Bool) → is_some (class_named p t) ≡ x → is_under p f t k.class ≡ y → (elim (x && y) as (λ b. Search) [ true ↦ finds_at p t k | false ↦ Nothing ]) ≡ Finds g
            → (is_within p t k.class ≡ true) ⊎ ((defines p k.class ≡ false) × (g.coded ≡ true → IsEnteredOn p o g.key))
        by true true e i at = up at (under_up p f none regular t k.class (there e) i)
        by true false e i at = nothing_finds g at
        by false y e i at = nothing_finds g at

  -- ---- what the framework calls

  module _ (c : NamedClass) (m : NamedMethod) (class_there : Contains p.classes c) (method_there : Contains c.methods m) (t : Text) (there : defines p t ≡ true) where
    abbrev that : MethodKey
    that = key c m

    abbrev at_it : Search
    at_it = finds_at p t that

    finds_on : is_found that (finds_virtually p f t that) ≡ true → finds_itself that at_it ≡ true
    finds_on e = by (is_some (class_named p t) && is_under p f t that.class) e
      where
        by : (b : Bool) → is_found that (elim b as (λ b. Search) [ true ↦ at_it | false ↦ Nothing ]) ≡ true → finds_itself that at_it ≡ true
        by true i = sym (same_find that at_it) ∙ i
        by false i = absurd (true≢false (sym i))

    -- a kept virtual method of its name and signature, above the receiver
    abbrev test : NamedMethod → Bool
    test x = text_eq x.name m.name && text_eq (proto_text x.signature) (proto_text m.signature)

    abbrev keeps : NamedClass → Bool
    keeps d = is_own_under p t d.name && keeps_virtual o that d

    kept_in : (u : Text) (d : NamedClass) → class_named p u ≡ Some d → In u (o.keepers m.name m.signature) → is_under p f t u ≡ true → (x : Option NamedMethod) → find test d.methods ≡ x
        → is_found_virtual (option_map (found_in d) x) ≡ true → list_any keeps p.classes ≡ true
    kept_in u d e i j None a b = absurd (true≢false (sym b))
    kept_in u d e i j (Some x) a b = any_here keeps d p.classes (class_in p u d e) (both_hold (is_own_under p t d.name) (keeps_virtual o that d) under keeping)
      where
        name : d.name ≡ u
        name = class_name p u d e

        defined_u : defines p u ≡ true
        defined_u = defined p u d e

        under : is_own_under p t d.name ≡ true
        under = ap (is_own_under p t) name ∙ own_under p f none regular t u there defined_u j

        r : In x d.methods
        r = (found_where test d.methods x a).is_in

        passed : test x ≡ true
        passed = (found_where test d.methods x a).passes

        same_text : x.name ≡ m.name
        same_text = text_sound x.name m.name (and_left (text_eq x.name m.name) (text_eq (proto_text x.signature) (proto_text m.signature)) passed)

        same_signature : x.signature ≡ m.signature
        same_signature = protos u c.name d c x m e (reg.regular.named c class_there) r (from_contained c.methods m method_there.0 method_there.1 method_there.2)
            (text_sound (proto_text x.signature) (proto_text m.signature) (and_behind (text_eq x.name m.name) (text_eq (proto_text x.signature) (proto_text m.signature)) passed))

        inside_d : Contains p.classes d
        inside_d = contained d p.classes (class_in p u d e)

        own : method_in d x.name x.signature ≡ Some x
        own = sym (ap (λ (y : Option NamedClass). elim y as (λ y. Option NamedMethod) [ Some z ↦ method_in z x.name x.signature | None ↦ None ]) (reg.regular.named d inside_d))
            ∙ reg.regular.methods d x inside_d (contained x d.methods r)

        found : method_in d m.name m.signature ≡ Some x
        found = sym (ap (λ n. method_in d n m.signature) same_text) ∙ (sym (ap (λ q. method_in d x.name q) same_signature) ∙ own)

        keeping : keeps_virtual o that d ≡ true
        keeping = both_hold (o.methods (record that { class = d.name })) (elim (method_in d m.name m.signature) as (λ y. Bool) [ Some z ↦ is_virtual_method z | None ↦ false ])
            (ap (λ s. o.methods (record that { class = s })) name ∙ table.inside.keepers u m.name m.signature i)
            (ap (λ (y : Option NamedMethod). elim y as (λ y. Bool) [ Some z ↦ is_virtual_method z | None ↦ false ]) found ∙ b)

    keeper : keeper_above (face_of p f) o t m.name m.signature ≡ true → list_any keeps p.classes ≡ true
    keeper e = let w = any_where (λ u. is_under p f t u && is_found_virtual (declared_in p u m.name (proto_text m.signature))) (o.keepers m.name m.signature) e in
        by w.0 (class_named p w.0) refl w.1.0 (and_left (is_under p f t w.0) (is_found_virtual (declared_in p w.0 m.name (proto_text m.signature))) w.1.1)
        (and_behind (is_under p f t w.0) (is_found_virtual (declared_in p w.0 m.name (proto_text m.signature))) w.1.1)
      where
        by : (u : Text) (y : Option NamedClass) → class_named p u ≡ y → In u (o.keepers m.name m.signature) → is_under p f t u ≡ true
            → is_found_virtual (elim y as (λ y. Option Found) [ Some d ↦ option_map (found_in d) (find test d.methods) | None ↦ None ]) ≡ true → list_any keeps p.classes ≡ true
        by u None e i j h = absurd (true≢false (sym h))
        by u (Some d) e i j h = kept_in u d e i j (find test d.methods) refl h

    kept : answers_kept (face_of p f) o t (found_in c m) ≡ true → answers_by p o t that m ≡ true
    kept e = let first = and_left (is_virtual_method m && is_found that (finds_virtually p f t that)) (keeper_above (face_of p f) o t m.name m.signature) e in
        both_hold (is_virtual_method m && finds_itself that at_it) (list_any keeps p.classes)
        (both_hold (is_virtual_method m) (finds_itself that at_it) (and_left (is_virtual_method m) (is_found that (finds_virtually p f t that)) first) (finds_on (and_behind (is_virtual_method m) (is_found that (finds_virtually p f t that)) first)))
        (keeper (and_behind (is_virtual_method m && is_found that (finds_virtually p f t that)) (keeper_above (face_of p f) o t m.name m.signature) e))

    back : calls_back (face_of p f) o t (found_in c m) ≡ true → is_called_back p o t that m ≡ true
    back e = let first = and_left (is_virtual_method m && not (o.shut that) && is_found that (finds_virtually p f t that)) (is_outward p t || is_common m.name m.signature) e in
        both_hold (is_virtual_method m && not (o.shut that) && finds_itself that at_it) (is_outward p t || is_common m.name m.signature)
        (both_hold (is_virtual_method m && not (o.shut that)) (finds_itself that at_it) (and_left (is_virtual_method m && not (o.shut that)) (is_found that (finds_virtually p f t that)) first)
        (finds_on (and_behind (is_virtual_method m && not (o.shut that)) (is_found that (finds_virtually p f t that)) first)))
        (and_behind (is_virtual_method m && not (o.shut that) && is_found that (finds_virtually p f t that)) (is_outward p t || is_common m.name m.signature) e)

    reached : may_reach (face_of p f) o t (found_in c m) ≡ true → (o.methods that || answers_by p o t that m || is_called_back p o t that m) ≡ true
    reached e = by (o.methods that) (answers_kept (face_of p f) o t (found_in c m)) refl refl e
      where
        by : (x y : Bool) → o.methods that ≡ x → answers_kept (face_of p f) o t (found_in c m) ≡ y → (x || y || calls_back (face_of p f) o t (found_in c m)) ≡ true
            → (o.methods that || answers_by p o t that m || is_called_back p o t that m) ≡ true
        by true y i j h = first_holds (o.methods that || answers_by p o t that m) (is_called_back p o t that m) (first_holds (o.methods that) (answers_by p o t that m) i)
        by false true i j h = first_holds (o.methods that || answers_by p o t that m) (is_called_back p o t that m) (second_holds (o.methods that) (answers_by p o t that m) (kept j))
        by false false i j h = second_holds (o.methods that || answers_by p o t that m) (is_called_back p o t that m) (back h)

    on_made : IsMade p o unconditional t → is_under p f t c.name ≡ true → may_reach (face_of p f) o t (found_in c m) ≡ true → is_some m.body ≡ true → is_static m.flags ≡ false → IsEnteredOn p o that
    on_made made u l coded held = record {
      method = m;
      receiver = t;
      defined = reg.regular.methods c m class_there method_there;
      held = held;
      coded = coded;
      made = made;
      under = own_under p f none regular t c.name there (class_defined c class_there) u;
      opened = reached l;
    }

  entered : (c n q t : Text) (g : Found) → declared_in p c n q ≡ Some g → defines p t ≡ true → IsMade p o unconditional t → is_under p f t g.key.class ≡ true → may_reach (face_of p f) o t g ≡ true → g.coded ≡ true → is_static g.flags ≡ false → IsEnteredOn p o g.key
  entered c n q t g e there made u l coded held = let x : IsDeclared p o f floats reg finds g = declared p o f floats reg finds c n q g e in
      subst (λ (z : Found). IsEnteredOn p o z.key) x.is (on_made x.class x.method x.class_in x.method_in t there made (ap (λ (z : Found). is_under p f t z.key.class) x.is ∙ u)
      (ap (λ (z : Found). may_reach (face_of p f) o t z) x.is ∙ l) (ap (λ (z : Found). z.coded) x.is ∙ coded) (ap (λ (z : Found). is_static z.flags) x.is ∙ held))

  within : (t u : Text) → defines p t ≡ true → defines p u ≡ true → is_under p f t u ≡ true → is_within p t u ≡ true
  within t u d e i = second_holds (text_eq u object_type) (is_own_under p t u) (own_under p f none regular t u d e i)

  pub reaches : Reaches p o f
  reaches = record { virtually = virtually; within = within; entered = entered }
