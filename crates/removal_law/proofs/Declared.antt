-- What the framework may enter is the same in what is left of a program.
use Rattle.std.proofs.Common.{◌≡◌, ℕ, Bool, true, false, List, [], ◌∷◌, length, refl, sym, ap, ◌∙◌, subst, inl, inr}
use Rattle.std.specs.Prelude.{◌⊎◌, ◌&&◌, ◌||◌, not, cond, Option, Some, None, is_some, filter, find, flat_map}
use Rattle.std.specs.Option.{option_map}
use Rattle.lemmas.proofs.Options.{none_some, some_same}
use Rattle.dalvik_defs.specs.Names.{Text, text_eq, texts_eq, signature_eq, method_eq, same_name, is_common, base_of, proto_text, object_type}
use Rattle.dalvik_defs.specs.Flags.{is_interface, is_virtual}
use Rattle.dalvik_defs.specs.Under.{class_named, defines, is_under, is_outward, is_own_under}
use Rattle.dalvik_defs.specs.Find.{Found, found_in as found_of, method_in, defined_method, chain_of, Search, Nothing, Clash, Finds, is_virtual_method, finds_at}
use Rattle.dalvik_defs.specs.Face.{Face, face_of, finds_virtually, declared_in}
use Rattle.dalvik_defs.specs.Outer.{Outer}
use Rattle.dalvik_defs.specs.Legal.{is_found, is_found_virtual, calls_back, keeper_above, answers_kept}
use Rattle.dalvik_defs.specs.Shut.{finds_it, is_found_as, is_other}
use Rattle.dalvik_defs.specs.Silence.{key_in}
use Rattle.dalvik_defs.specs.declared.names.Signature.{Signature}
use Rattle.dalvik_defs.specs.declared.names.MethodKey.{MethodKey}
use Rattle.dalvik_defs.specs.declared.tables.Framework.{Framework}
use Rattle.dalvik_defs.specs.declared.program.NamedMethod.{NamedMethod}
use Rattle.dalvik_defs.specs.declared.program.NamedClass.{NamedClass}
use Rattle.dalvik_defs.specs.declared.program.NamedProgram.{NamedProgram}
use Rattle.dalvik_defs.proofs.Calm.{text_sound}
use Rattle.pass_defs.specs.Live.{Family, Conditions, IsClosedFamily, KeepsAbove, everything, is_kept_method, answers_to}
use Rattle.pass_defs.specs.Calls.{is_within, inherits, candidates_of}
use Rattle.removal_law.specs.Left.{left_in, left_of, NamesNone}
use Rattle.removal_law.specs.Agree.{IsBarred}
use Rattle.removal_law.specs.Reach.{OkType, MadeType, may_be_made, LiveMethod, ends, IsRegular, IsSoundCode, IsSoundTable}
use Rattle.removal_law.proofs.Lists.{clash, In, here, there, contained, and_left, and_behind, any_same, FoundIn, found_in, not_found}
use Rattle.removal_law.proofs.Walks.{text_same}
use Rattle.removal_law.proofs.Classes.{Kept, class_left, left_less, dead_found}
use Rattle.removal_law.proofs.Under.{under_same}
use Rattle.removal_law.proofs.Members.{key, key_sound, signature_sound}
use Rattle.removal_law.proofs.Outward.{any_where, Up, inside, through, object, under_up}
use Rattle.removal_law.proofs.Levels.{undefined_ends}
use Rattle.removal_law.proofs.Trees.{class_name, class_in, class_kept, defined, undefined, defines_class, ends_same, own_under_left}
use Rattle.removal_law.proofs.Finds.{in_filter, in_unfiltered}
use Rattle.removal_law.proofs.Searches.{nothing_finds, at_left, at_some, at_in}
use Rattle.removal_law.proofs.Virtuals.{IsMethodOf, inherited, answer, candidate_interface, candidate_version}
use Rattle.removal_law.proofs.Climbs.{answer_climbs, climb_under}
use Rattle.removal_law.proofs.KindsLeft.{base_bare, class_bare}

-- ---- names

texts_same : (ts : List Text) → texts_eq ts ts ≡ true
texts_same [] = refl
texts_same (t ∷ ts) = ap (λ b. b && texts_eq ts ts) (text_same t) ∙ texts_same ts

signature_same : (g : Signature) → signature_eq g g ≡ true
signature_same g = ap (λ b. b && texts_eq g.parameters g.parameters) (text_same g.result) ∙ texts_same g.parameters

pub name_same : (n : Text) (g : Signature) → same_name n g n g ≡ true
name_same n g = ap (λ b. b && signature_eq g g) (text_same n) ∙ signature_same g

pub method_same : (k : MethodKey) → method_eq k k ≡ true
method_same k = ap (λ b. b && text_eq k.name k.name && signature_eq k.signature k.signature) (text_same k.class) ∙ ap (λ b. b && signature_eq k.signature k.signature) (text_same k.name) ∙ signature_same k.signature

pub method_sound : (a b : MethodKey) → method_eq a b ≡ true → a ≡ b
method_sound a b e =
    let x : (text_eq a.class b.class && text_eq a.name b.name) ≡ true = and_left (text_eq a.class b.class && text_eq a.name b.name) (signature_eq a.signature b.signature) e in
    ap (λ t. record { class = t; name = a.name; signature = a.signature }) (text_sound a.class b.class (and_left (text_eq a.class b.class) (text_eq a.name b.name) x))
    ∙ ap (λ t. record { class = b.class; name = t; signature = a.signature }) (text_sound a.name b.name (and_behind (text_eq a.class b.class) (text_eq a.name b.name) x))
    ∙ ap (λ g. record { class = b.class; name = b.name; signature = g }) (signature_sound a.signature b.signature (and_behind (text_eq a.class b.class && text_eq a.name b.name) (signature_eq a.signature b.signature) e))

-- ---- searches

pub find_kept : {A : Type 0} (test keep : A → Bool) (xs : List A) (m : A) → find test xs ≡ Some m → keep m ≡ true → find test (filter keep xs) ≡ Some m
find_kept test keep [] m e k = none_some m e
find_kept {A} test keep (x ∷ xs) m e k = by (test x) refl (keep x) refl e (find_kept test keep xs m)
  where
    by : (b : Bool) → test x ≡ b → (d : Bool) → keep x ≡ d → cond b (Some x) (find test xs) ≡ Some m → (find test xs ≡ Some m → keep m ≡ true → find test (filter keep xs) ≡ Some m)
        → find test (cond (keep x) (x ∷ filter keep xs) (filter keep xs)) ≡ Some m
    by true i true j a ih = ap (λ d. find test (cond d (x ∷ filter keep xs) (filter keep xs))) j ∙ ap (λ b. cond b (Some x) (find test (filter keep xs))) i ∙ a
    by true i false j a ih = clash (keep x) (ap keep (some_same x m a) ∙ k) j
    by false i true j a ih = ap (λ d. find test (cond d (x ∷ filter keep xs) (filter keep xs))) j ∙ ap (λ b. cond b (Some x) (find test (filter keep xs))) i ∙ ih a k
    by false i false j a ih = ap (λ d. find test (cond d (x ∷ filter keep xs) (filter keep xs))) j ∙ ih a k

pub none_there : {A : Type 0} (test : A → Bool) (xs : List A) → find test xs ≡ None → (x : A) → In x xs → test x ≡ false
none_there test [] e x i = elim i [ ]
none_there {A} test (y ∷ xs) e x i = by (test y) refl e (none_there test xs) x i
  where
    rest : (find test xs ≡ None → (x : A) → In x xs → test x ≡ false) → find test xs ≡ None → test y ≡ false → (x : A) → In x (y ∷ xs) → test x ≡ false
    rest ih a j x i = elim (behind x i) [ inl b ↦ ap test b ∙ j | inr b ↦ ih a x b ]
      where
        behind : (x : A) → In x (y ∷ xs) → (x ≡ y) ⊎ In x xs
        behind x i = split x y i
          where
            split : (x z : A) → In x (z ∷ xs) → (x ≡ z) ⊎ In x xs
            split x z (here ys) = inl refl
            split x z (there u ys b) = inr b

    by : (b : Bool) → test y ≡ b → cond b (Some y) (find test xs) ≡ None → (find test xs ≡ None → (x : A) → In x xs → test x ≡ false) → (x : A) → In x (y ∷ xs) → test x ≡ false
    by true j a ih x i = none_some y (sym a)
    by false j a ih x i = rest ih a j x i

some_there : {A : Type 0} (test : A → Bool) (xs : List A) (x : A) → In x xs → test x ≡ true → is_some (find test xs) ≡ true
some_there test xs x i e = by (find test xs) refl
  where
    by : (o : Option _) → find test xs ≡ o → is_some (find test xs) ≡ true
    by (Some y) j = ap is_some j
    by None j = clash (test x) e (none_there test xs j x i)

pub not_false : (b : Bool) → not b ≡ true → b ≡ false
not_false true e = clash true refl (sym e)
not_false false e = refl

or_none : (a b : Bool) {A : Type 0} → a ≡ false → b ≡ false → (a || b) ≡ true → A
or_none true b e i j = clash true refl e
or_none false b e i j = clash b j i

pub and_none : (a b : Bool) → b ≡ false → (a && b) ≡ false
and_none true b e = e
and_none false b e = refl

-- ---- a search that finds a method

pub found_it : (k : MethodKey) (x : Search) → is_found k x ≡ true → (g : Found) × ((x ≡ Finds g) × (g.key ≡ k))
found_it k Nothing e = clash false e refl
found_it k Clash e = clash false e refl
found_it k (Finds g) e = (g, (refl, method_sound g.key k e))

module _ (p : NamedProgram) (o : Outer) (kept : Conditions) (s : Family) (f : Framework) (closed : IsClosedFamily p o kept s) (regular : IsRegular p) (code : IsSoundCode p) (table : IsSoundTable p o)
    (none : NamesNone p f) where
  abbrev pub q : NamedProgram
  q = left_of s p

  abbrev pub F : Face
  F = face_of p f

  abbrev pub G : Face
  G = face_of (left_of s p) f

  pub above : KeepsAbove p s
  above = closed.above

  -- ---- types

  pub base_defined : (t : Text) → defines p t ≡ true → base_of t ≡ t
  base_defined t d = base_bare t (class_bare t (regular.names t d))

  pub ok_kept : (t : Text) → OkType p s t → Kept s p t
  ok_kept t h = λ d. let e = base_defined t d in ap s.classes (sym e) ∙ h (ap (defines p) e ∙ d)

  pub live_ok : (t : Text) → defines p t ≡ true → s.classes t ≡ true → OkType p s t
  live_ok t d l = λ i. ap s.classes (base_defined t d) ∙ l

  pub method_kept : (g : Found) → s.methods g.key ≡ true → Kept s p g.key.class
  method_kept g l = λ d. closed.kept.method_classes g.key l

  -- ---- what is left as a program of its own

  pub left_class : (t : Text) (e : NamedClass) → class_named q t ≡ Some e → (c : NamedClass) × ((class_named p t ≡ Some c) × (e ≡ left_in s c))
  left_class t e i = by (s.classes t) refl
    where
      here_of : (x : Option NamedClass) → class_named p t ≡ x → option_map (left_in s) x ≡ Some e → (c : NamedClass) × ((class_named p t ≡ Some c) × (e ≡ left_in s c))
      here_of None j a = none_some e a
      here_of (Some c) j a = (c, (j, sym (some_same (left_in s c) e a)))

      by : (b : Bool) → s.classes t ≡ b → (c : NamedClass) × ((class_named p t ≡ Some c) × (e ≡ left_in s c))
      by true l = here_of (class_named p t) refl (sym (class_left s p t (λ d. l)) ∙ i)
      by false l = none_some e (sym (dead_found s t l p.classes) ∙ i)

  left_defines : (t : Text) → defines q t ≡ true → defines p t ≡ true
  left_defines t d = let e = defines_class q t d in let c = left_class t e.0 e.1 in defined p t c.0 c.1.0

  left_above : KeepsAbove q everything
  left_above = record { above = λ t c i l u j d. refl; initialisers = λ t k l e. refl; defaults = λ t c m v i l j e a b. refl }

  left_regular : IsRegular q
  left_regular = record { names = λ t d. regular.names t (left_defines t d); grounded = λ t. by t (s.classes t) refl }
    where
      by : (t : Text) (b : Bool) → s.classes t ≡ b → (n : ℕ) × (ends q n t ≡ true)
      by t true l = let g = regular.grounded t in (g.0, ends_same p s above g.0 t (λ d. l) ∙ g.1)
      by t false l = (0, undefined_ends q t (undefined q t (dead_found s t l p.classes)) 0)

  -- ---- what a class declares, in what is left

  module _ (t n proto : Text) where
    abbrev test : NamedMethod → Bool
    test m = text_eq m.name n && text_eq (proto_text m.signature) proto

    abbrev keeps : NamedClass → NamedMethod → Bool
    keeps c m = s.methods (key_in c m)

    abbrev declared_of : Option NamedClass → Option Found
    declared_of x = elim x as (λ x. Option Found) [ Some c ↦ option_map (found_of c) (find test c.methods) | None ↦ None ]

    pub declared_undefined : class_named p t ≡ None → declared_in q t n proto ≡ None
    declared_undefined e = ap declared_of (left_less s p t (undefined p t e))

    -- a class that goes declares nothing more
    none_left : s.classes t ≡ false → declared_in q t n proto ≡ None
    none_left e = ap declared_of (dead_found s t e p.classes)

    module _ (c : NamedClass) (e : class_named p t ≡ Some c) where
      left_c : s.classes t ≡ true → declared_in q t n proto ≡ option_map (found_of (left_in s c)) (find test (filter (keeps c) c.methods))
      left_c l = ap declared_of (class_kept p s above t c e (λ d. l))

      no_other : (m : NamedMethod) → find test c.methods ≡ Some m → s.methods (key_in c m) ≡ false → find test (filter (keeps c) c.methods) ≡ None
      no_other m i dead = not_found test (filter (keeps c) c.methods) (λ x j. by x j (test x) refl)
        where
          h : FoundIn test c.methods m
          h = found_in test c.methods m i

          by : (x : NamedMethod) → In x (filter (keeps c) c.methods) → (b : Bool) → test x ≡ b → test x ≡ false
          by x j false a = a
          by x j true a =
              let same : x ≡ m = code.methods t c x m e (in_unfiltered (keeps c) x c.methods j) h.is_in
              (text_sound x.name n (and_left (text_eq x.name n) (text_eq (proto_text x.signature) proto) a) ∙ sym (text_sound m.name n (and_left (text_eq m.name n) (text_eq (proto_text m.signature) proto) h.passes)))
              (text_sound (proto_text x.signature) proto (and_behind (text_eq x.name n) (text_eq (proto_text x.signature) proto) a)
              ∙ sym (text_sound (proto_text m.signature) proto (and_behind (text_eq m.name n) (text_eq (proto_text m.signature) proto) h.passes))) in
              clash (s.methods (key_in c x)) (in_filter (keeps c) x c.methods j) (ap (λ y. s.methods (key_in c y)) same ∙ dead)

      live_c : (m : NamedMethod) → s.methods (key_in c m) ≡ true → s.classes t ≡ true
      live_c m l = ap s.classes (sym (class_name p t c e)) ∙ closed.kept.method_classes (key_in c m) l

      pub declared_live : (m : NamedMethod) → find test c.methods ≡ Some m → s.methods (key_in c m) ≡ true → declared_in q t n proto ≡ Some (found_of c m)
      declared_live m i l = left_c (live_c m l) ∙ ap (option_map (found_of (left_in s c))) (find_kept test (keeps c) c.methods m i l)

      pub declared_dead : (m : NamedMethod) → find test c.methods ≡ Some m → s.methods (key_in c m) ≡ false → declared_in q t n proto ≡ None
      declared_dead m i l = by (s.classes t) refl
        where
          by : (b : Bool) → s.classes t ≡ b → declared_in q t n proto ≡ None
          by true a = left_c a ∙ ap (option_map (found_of (left_in s c))) (no_other m i l)
          by false a = none_left a

      pub declared_none : find test c.methods ≡ None → declared_in q t n proto ≡ None
      declared_none i = by (s.classes t) refl
        where
          by : (b : Bool) → s.classes t ≡ b → declared_in q t n proto ≡ None
          by true a = left_c a ∙ ap (option_map (found_of (left_in s c))) (not_found test (filter (keeps c) c.methods) (λ x j. none_there test c.methods i x (in_unfiltered (keeps c) x c.methods j)))
          by false a = none_left a

  -- a class declares a virtual method of a name and a text of its proto
  pub record Declares (t n proto : Text) : Type 0 where
    pub class : NamedClass
    pub named : class_named p t ≡ Some class
    pub method : NamedMethod
    pub stands : In method class.methods
    pub name : method.name ≡ n
    pub proto_is : proto_text method.signature ≡ proto
    pub virtual : is_virtual_method method ≡ true

  module _ (t n proto : Text) where
    abbrev declares_it : (c : NamedClass) → class_named p t ≡ Some c → (m : NamedMethod) → find (test t n proto) c.methods ≡ Some m → is_virtual_method m ≡ true → Declares t n proto
    declares_it c e m i v = let h = found_in (test t n proto) c.methods m i in record {
      class = c;
      named = e;
      method = m;
      stands = h.is_in;
      name = text_sound m.name n (and_left (text_eq m.name n) (text_eq (proto_text m.signature) proto) h.passes);
      proto_is = text_sound (proto_text m.signature) proto (and_behind (text_eq m.name n) (text_eq (proto_text m.signature) proto) h.passes);
      virtual = v;
    }

    declares : is_found_virtual (declared_in p t n proto) ≡ true → Declares t n proto
    declares v = by (class_named p t) refl v
      where
        at : (c : NamedClass) → class_named p t ≡ Some c → (x : Option NamedMethod) → find (test t n proto) c.methods ≡ x → is_found_virtual (option_map (found_of c) x) ≡ true → Declares t n proto
        at c e None i a = clash false a refl
        at c e (Some m) i a = declares_it c e m i a

        by : (x : Option NamedClass) → class_named p t ≡ x → is_found_virtual (declared_of t n proto x) ≡ true → Declares t n proto
        by None e a = clash false a refl
        by (Some c) e a = at c e (find (test t n proto) c.methods) refl a

    -- where each virtual method that is declared so is live, one is declared in what is left just where one was
    virtual_left : ((w : Declares t n proto) → s.methods (key_in w.class w.method) ≡ true) → is_found_virtual (declared_in p t n proto) ≡ is_found_virtual (declared_in q t n proto)
    virtual_left lives = by (class_named p t) refl
      where
        dead : (c : NamedClass) → class_named p t ≡ Some c → (m : NamedMethod) → find (test t n proto) c.methods ≡ Some m → s.methods (key_in c m) ≡ false → (b : Bool) → is_virtual_method m ≡ b → is_virtual_method m ≡ false
        dead c e m i l true v = clash (s.methods (key_in c m)) (lives (declares_it c e m i v)) l
        dead c e m i l false v = v

        one : (c : NamedClass) → class_named p t ≡ Some c → (m : NamedMethod) → find (test t n proto) c.methods ≡ Some m → (b : Bool) → s.methods (key_in c m) ≡ b → is_virtual_method m ≡ is_found_virtual (declared_in q t n proto)
        one c e m i true l = sym (ap is_found_virtual (declared_live t n proto c e m i l))
        one c e m i false l = dead c e m i l (is_virtual_method m) refl ∙ sym (ap is_found_virtual (declared_dead t n proto c e m i l))

        at : (c : NamedClass) → class_named p t ≡ Some c → (x : Option NamedMethod) → find (test t n proto) c.methods ≡ x → is_found_virtual (option_map (found_of c) x) ≡ is_found_virtual (declared_in q t n proto)
        at c e None i = sym (ap is_found_virtual (declared_none t n proto c e i))
        at c e (Some m) i = one c e m i (s.methods (key_in c m)) refl

        by : (x : Option NamedClass) → class_named p t ≡ x → is_found_virtual (declared_of t n proto x) ≡ is_found_virtual (declared_in q t n proto)
        by None e = sym (ap is_found_virtual (declared_undefined t n proto e))
        by (Some c) e = at c e (find (test t n proto) c.methods) refl

  within_of : (t u : Text) → defines p t ≡ true → defines p u ≡ true → is_under p f t u ≡ true → is_within p t u ≡ true
  within_of t u d v e = by (under_up p f none regular t u d e)
    where
      behind : (b c : Bool) → c ≡ true → (b || c) ≡ true
      behind true c i = refl
      behind false c i = i

      by : Up p f none regular (length p.classes) t u → is_within p t u ≡ true
      by (inside i) = behind (text_eq u object_type) (is_own_under p t u) i
      by (through i away) = clash (defines p u) v away
      by (object i) = ap (λ b. b || is_own_under p t u) i

  -- ---- one method of a class

  module _ (c : NamedClass) (m : NamedMethod) (named : class_named p c.name ≡ Some c) (stands : In m c.methods) where
    abbrev pub K : MethodKey
    K = key_in c m

    abbrev pub f0 : Found
    f0 = found_of c m

    defined_method_there : is_some (defined_method p K) ≡ true
    defined_method_there = ap (λ o. is_some (elim o as (λ o. Option NamedMethod) [ Some c ↦ method_in c m.name m.signature | None ↦ None ])) named
        ∙ some_there (λ x. same_name x.name x.signature m.name m.signature) c.methods m stands (name_same m.name m.signature)

    pub not_kept : s.methods K ≡ false → o.methods K ≡ false
    not_kept dead = by (o.methods K) refl
      where
        by : (b : Bool) → o.methods K ≡ b → o.methods K ≡ false
        by true e = clash (s.methods K) (closed.kept.methods K defined_method_there (ap (λ b. b || (kept.methods K && s.classes c.name)) e)) dead
        by false e = e

    -- ---- kept virtual methods of this name and signature above a class

    module _ (u : Text) (w : Declares u m.name (proto_text m.signature)) where
      signature_is : w.method.signature ≡ m.signature
      signature_is = code.protos u c.name w.class c w.method m w.named named w.stands stands w.proto_is

      key_is : key_in w.class w.method ≡ key u m.name m.signature
      key_is = ap (λ x. key x w.method.name w.method.signature) (class_name p u w.class w.named) ∙ ap (λ x. key u x w.method.signature) w.name ∙ ap (key u m.name) signature_is

      abbrev same : NamedMethod → Bool
      same x = same_name x.name x.signature m.name m.signature

      same_there : same w.method ≡ true
      same_there = ap (λ x. same_name x w.method.signature m.name m.signature) w.name ∙ ap (λ x. same_name m.name x m.name m.signature) signature_is ∙ name_same m.name m.signature

      defined_keeper : (y : NamedMethod) × ((defined_method p (key u m.name m.signature) ≡ Some y) × (is_virtual_method y ≡ true))
      defined_keeper = by (find same w.class.methods) refl
        where
          by : (x : Option NamedMethod) → find same w.class.methods ≡ x → (y : NamedMethod) × ((defined_method p (key u m.name m.signature) ≡ Some y) × (is_virtual_method y ≡ true))
          by None i = clash (same w.method) same_there (none_there same w.class.methods i w.method w.stands)
          by (Some y) i =
              let h = found_in same w.class.methods y i in
              let k : key_in w.class y ≡ key w.class.name m.name m.signature = key_sound w.class y m.name m.signature h.passes in
              let one : y ≡ w.method = code.methods u w.class y w.method w.named h.is_in w.stands (ap (λ x. x.name) k ∙ sym w.name) (ap (λ x. proto_text x.signature) k ∙ sym w.proto_is) in
              (y, (ap (λ x. elim x as (λ x. Option NamedMethod) [ Some c ↦ method_in c m.name m.signature | None ↦ None ]) w.named ∙ i, ap is_virtual_method one ∙ w.virtual))

      module _ (i : In u (o.keepers m.name m.signature)) where
        keeper_kept : is_kept_method o kept s (key u m.name m.signature) ≡ true
        keeper_kept = ap (λ b. b || (kept.methods (key u m.name m.signature) && s.classes u)) (table.inside.keepers u m.name m.signature i)

        keeper_live : s.methods (key_in w.class w.method) ≡ true
        keeper_live = ap s.methods key_is ∙ closed.kept.methods (key u m.name m.signature) (ap is_some defined_keeper.1.0) keeper_kept

        keeper_answers : (t : Text) → defines p t ≡ true → MadeType p o s t → is_under p f t u ≡ true → (h : Found) → In h (answers_to p t m.name m.signature) → s.methods h.key ≡ true
        keeper_answers t d mt e h j = closed.entered (key u m.name m.signature) defined_keeper.0 defined_keeper.1.0 defined_keeper.1.1 keeper_kept t (mt d).0
            (within_of t u d (defined p u w.class w.named) e) h (contained h (answers_to p t m.name m.signature) j)

    -- what the framework enters by one is live
    pub keepers_live : (t : Text) → defines p t ≡ true → MadeType p o s t → keeper_above F o t m.name m.signature ≡ true → (h : Found) → In h (answers_to p t m.name m.signature) → s.methods h.key ≡ true
    keepers_live t d mt e =
        let r = any_where (λ u. is_under p f t u && is_found_virtual (declared_in p u m.name (proto_text m.signature))) (o.keepers m.name m.signature) e in
        keeper_answers r.0 (declares r.0 m.name (proto_text m.signature) (and_behind (is_under p f t r.0) (is_found_virtual (declared_in p r.0 m.name (proto_text m.signature))) r.1.1)) r.1.0 t d mt
        (and_left (is_under p f t r.0) (is_found_virtual (declared_in p r.0 m.name (proto_text m.signature))) r.1.1)

    -- and what is left has the same ones
    pub keepers_same : (t : Text) → OkType p s t → keeper_above F o t m.name m.signature ≡ keeper_above G o t m.name m.signature
    keepers_same t k = any_same (λ u. is_under p f t u && is_found_virtual (declared_in p u m.name (proto_text m.signature))) (λ u. is_under q f t u && is_found_virtual (declared_in q u m.name (proto_text m.signature)))
        (o.keepers m.name m.signature)
        (λ u i. ap (λ b. b && is_found_virtual (declared_in p u m.name (proto_text m.signature))) (under_same p f none s above t u k)
        ∙ ap (λ b. is_under q f t u && b) (virtual_left u m.name (proto_text m.signature) (λ w. keeper_live u w i)))

    abbrev pub may : Text → Bool
    may t = is_outward p t || is_common m.name m.signature

    called_live : (t : Text) → defines p t ≡ true → MadeType p o s t → may t ≡ true → (h : Found) → In h (answers_to p t m.name m.signature) → o.shut h.key ≡ false → s.methods h.key ≡ true
    called_live t d mt e h i n = closed.called_back t m.name m.signature (mt d).0 e h (contained h (answers_to p t m.name m.signature) i) n

    pub some_defines : (r : NamedProgram) (t : Text) → is_some (class_named r t) ≡ defines r t
    some_defines r t = by (class_named r t)
      where
        by : (x : Option NamedClass) → is_some x ≡ (elim x as (λ x. Bool) [ Some c ↦ true | None ↦ false ])
        by None = refl
        by (Some c) = refl

    abbrev pub virtual_of : NamedProgram → Bool → Text → Search
    virtual_of r b t = elim b as (λ b. Search) [ true ↦ finds_at r t K | false ↦ Nothing ]

    virtual_at : (t : Text) (g : Found) → finds_virtually p f t K ≡ Finds g → (defines p t ≡ true) × (finds_at p t K ≡ Finds g)
    virtual_at t g e = by (is_some (class_named p t) && is_under p f t c.name) refl e
      where
        by : (b : Bool) → (is_some (class_named p t) && is_under p f t c.name) ≡ b → virtual_of p b t ≡ Finds g → (defines p t ≡ true) × (finds_at p t K ≡ Finds g)
        by true i a = (sym (some_defines p t) ∙ and_left (is_some (class_named p t)) (is_under p f t c.name) i, a)
        by false i a = nothing_finds g a

    abbrev pub virtual_test : Bool
    virtual_test = is_virtual m.flags m.name

    -- a method that isn't live is neither kept, nor entered by a kept one, nor called back
    module _ (dead : s.methods K ≡ false) (t : Text) (mt : MadeType p o s t) where
      unanswered : (b : Bool) → answers_kept F o t f0 ≡ b → answers_kept F o t f0 ≡ false
      unanswered false e = e
      unanswered true e =
          let x : (virtual_test && is_found K (F.virtually t K)) ≡ true = and_left (virtual_test && is_found K (F.virtually t K)) (keeper_above F o t m.name m.signature) e in
          let r = found_it K (F.virtually t K) (and_behind virtual_test (is_found K (F.virtually t K)) x) in
          let a = virtual_at t r.0 r.1.0 in
          clash (s.methods K) (ap s.methods (sym r.1.1) ∙ keepers_live t a.0 mt (and_behind (virtual_test && is_found K (F.virtually t K)) (keeper_above F o t m.name m.signature) e) r.0
          (at_in p s above regular t K r.0 a.1)) dead

      uncalled : (b : Bool) → calls_back F o t f0 ≡ b → calls_back F o t f0 ≡ false
      uncalled false e = e
      uncalled true e =
          let x : (virtual_test && not (o.shut K) && is_found K (F.virtually t K)) ≡ true = and_left (virtual_test && not (o.shut K) && is_found K (F.virtually t K)) (may t) e in
          let r = found_it K (F.virtually t K) (and_behind (virtual_test && not (o.shut K)) (is_found K (F.virtually t K)) x) in
          let shut : o.shut K ≡ false = not_false (o.shut K) (and_behind virtual_test (not (o.shut K)) (and_left (virtual_test && not (o.shut K)) (is_found K (F.virtually t K)) x)) in
          let a = virtual_at t r.0 r.1.0 in
          clash (s.methods K) (ap s.methods (sym r.1.1) ∙ called_live t a.0 mt (and_behind (virtual_test && not (o.shut K) && is_found K (F.virtually t K)) (may t) e) r.0
          (at_in p s above regular t K r.0 a.1) (ap o.shut r.1.1 ∙ shut)) dead

    pub barred : s.methods K ≡ false → IsBarred (OkType p s) (MadeType p o s) (LiveMethod p s) o F f0
    barred dead = record {
      kept = not_kept dead;
      called = λ t k mt. ap (λ b. b || answers_kept F o t f0 || calls_back F o t f0) (not_kept dead) ∙ ap (λ b. b || calls_back F o t f0) (unanswered dead t mt (answers_kept F o t f0) refl)
          ∙ uncalled dead t mt (calls_back F o t f0) refl;
    }

    -- ---- a live method

    module _ (live : s.methods K ≡ true) (coded : is_some m.body ≡ true) (t : Text) (ok : OkType p s t) (made : MadeType p o s t) (d : defines p t ≡ true) (free : o.methods K ≡ false) (unshut : o.shut K ≡ false)
        (open_to : may t ≡ true) where
      pub kept_t : Kept s p t
      kept_t = ok_kept t ok

      same_if_live : ((h : Found) → In h (answers_to p t m.name m.signature) → s.methods h.key ≡ true) → finds_at q t K ≡ finds_at p t K
      same_if_live l = at_left p s above regular method_kept t K kept_t l

      candidate_lives : (h : Found) → In h (candidates_of p t m.name m.signature) → In h (answers_to p t m.name m.signature) → s.methods h.key ≡ true
      candidate_lives h i j = by (o.shut h.key) refl
        where
          by : (b : Bool) → o.shut h.key ≡ b → s.methods h.key ≡ true
          by true e = let x = candidate_interface p s above regular m.name m.signature (flat_map (λ c. c.interfaces) (chain_of p t)) h i in
              clash (is_interface x.class.flags) x.is_interface (table.shuts.plain h.key x.class (candidate_version p s above regular m.name m.signature (flat_map (λ c. c.interfaces) (chain_of p t)) h i) e x.named)
          by false e = called_live t d made open_to h j e

      -- what another class finds there isn't this method
      module _ (g : Found) (got : inherits p t m.name m.signature ≡ Some g) (gone : s.methods g.key ≡ false) where
        gm : IsMethodOf p m.name m.signature g
        gm = inherited p s above regular m.name m.signature t g got

        shut_g : o.shut g.key ≡ true
        shut_g = by (o.shut g.key) refl
          where
            by : (b : Bool) → o.shut g.key ≡ b → o.shut g.key ≡ true
            by true e = e
            by false e = clash (s.methods g.key) (called_live t d made open_to g (subst (λ x. In g (elim x as (λ x. List Found) [ Some f ↦ f ∷ [] | None ↦ candidates_of p t m.name m.signature ])) (sym got) (here [])) e) gone

        there_d : (dc : NamedClass) × (class_named p t ≡ Some dc)
        there_d = defines_class p t d

        finds_g : finds_it p g.key there_d.0 ≡ true
        finds_g = ap (is_found_as g.key) (ap (λ x. finds_at p x g.key) (class_name p t there_d.0 there_d.1)
            ∙ at_some p s above regular t g.key g (ap (λ x. inherits p t x.name x.signature) gm.key_is ∙ got))
            ∙ method_same g.key

        made_d : may_be_made p o there_d.0.name ≡ true
        made_d = ap (may_be_made p o) (class_name p t there_d.0 there_d.1) ∙ (made d).1

        open_d : (is_outward p there_d.0.name || is_common g.key.name g.key.signature) ≡ true
        open_d = ap (λ x. is_outward p x || is_common g.key.name g.key.signature) (class_name p t there_d.0 there_d.1)
            ∙ ap (λ x. is_outward p t || is_common x.name x.signature) gm.key_is ∙ open_to

        other_class : text_eq c.name g.key.class ≡ false
        other_class = by (text_eq c.name g.key.class) refl
          where
            by : (b : Bool) → text_eq c.name g.key.class ≡ b → text_eq c.name g.key.class ≡ false
            by true e = clash (s.methods K) live (ap s.methods (ap (λ x. key x m.name m.signature) (text_sound c.name g.key.class e ∙ ap (λ x. x.class) gm.key_is) ∙ sym gm.key_is) ∙ gone)
            by false e = e

        conflict : (h : Found) → finds_at q t K ≡ Finds h → h.key ≡ K → true ≡ false
        conflict h e i = or_none (o.methods K) (o.shut K) free unshut
            (table.shuts.others g.key gm.method there_d.0 c m shut_g (ap (λ x. x.key.name) gm.is) (ap (λ x. x.key.signature) gm.is) (class_in p t there_d.0 there_d.1) finds_g made_d open_d (class_in p c.name c named) under_c stands other)
          where
            inside : In h (answers_to q t m.name m.signature)
            inside = at_in q everything left_above left_regular t K h e

            hm : IsMethodOf q m.name m.signature h
            hm = answer q everything left_above left_regular m.name m.signature t h inside

            key_h : key_in hm.class hm.method ≡ K
            key_h = ap (λ x. x.key) hm.is ∙ i

            pc : (pc : NamedClass) × ((class_named p hm.class.name ≡ Some pc) × (hm.class ≡ left_in s pc))
            pc = left_class hm.class.name hm.class hm.named

            same_c : pc.0 ≡ c
            same_c = some_same pc.0 c (sym pc.1.0 ∙ ap (λ x. class_named p x.class) key_h ∙ named)

            x_stands : In hm.method c.methods
            x_stands = subst (λ y. In hm.method y.methods) same_c (in_unfiltered (λ y. s.methods (key_in pc.0 y)) hm.method pc.0.methods (subst (λ y. In hm.method y.methods) pc.1.1 hm.stands))

            same_m : hm.method ≡ m
            same_m = code.methods c.name c hm.method m named x_stands stands (ap (λ x. x.name) key_h) (ap (λ x. proto_text x.signature) key_h)

            under_c : is_own_under p there_d.0.name c.name ≡ true
            under_c = ap (λ x. is_own_under p x c.name) (class_name p t there_d.0 there_d.1) ∙ sym (own_under_left p s above regular t c.name kept_t)
                ∙ ap (is_own_under q t) (sym (ap (λ x. x.class) i)) ∙ climb_under q everything left_above left_regular t h.key.class (answer_climbs q everything left_above left_regular m.name m.signature t h inside)

            names : same_name m.name m.signature gm.method.name gm.method.signature ≡ true
            names = ap (λ x. same_name m.name m.signature x.name x.signature) (ap (λ x. x.key) gm.is ∙ gm.key_is) ∙ name_same m.name m.signature

            other : is_other g.key.class gm.method c m ≡ true
            other = ap (λ b. b && is_virtual_method m && is_some m.body && not (text_eq c.name g.key.class)) names
                ∙ ap (λ b. b && is_some m.body && not (text_eq c.name g.key.class)) (ap is_virtual_method (sym same_m) ∙ hm.virtual)
                ∙ ap (λ b. b && not (text_eq c.name g.key.class)) coded ∙ ap not other_class

        neither : is_found K (finds_at p t K) ≡ is_found K (finds_at q t K)
        neither = first (method_eq g.key K) refl ∙ sym (second (is_found K (finds_at q t K)) refl)
          where
            first : (b : Bool) → method_eq g.key K ≡ b → is_found K (finds_at p t K) ≡ false
            first true e = clash (s.methods K) live (ap s.methods (sym (method_sound g.key K e)) ∙ gone)
            first false e = ap (is_found K) (at_some p s above regular t K g got) ∙ e

            second : (b : Bool) → is_found K (finds_at q t K) ≡ b → is_found K (finds_at q t K) ≡ false
            second true e = let r = found_it K (finds_at q t K) e in e ∙ conflict r.0 r.1.0 r.1.1
            second false e = e

      pub at_same : is_found K (finds_at p t K) ≡ is_found K (finds_at q t K)
      at_same = by (inherits p t m.name m.signature) refl
        where
          only : (g : Found) → s.methods g.key ≡ true → (h : Found) → In h (g ∷ []) → s.methods h.key ≡ true
          only g l h (here ys) = l
          only g l h (there y ys i) = elim i [ ]

          one : (g : Found) → inherits p t m.name m.signature ≡ Some g → (b : Bool) → s.methods g.key ≡ b → is_found K (finds_at p t K) ≡ is_found K (finds_at q t K)
          one g e true l = ap (is_found K) (sym (same_if_live (λ h i. only g l h (subst (λ x. In h (elim x as (λ x. List Found) [ Some f ↦ f ∷ [] | None ↦ candidates_of p t m.name m.signature ])) e i))))
          one g e false l = neither g e l

          by : (x : Option Found) → inherits p t m.name m.signature ≡ x → is_found K (finds_at p t K) ≡ is_found K (finds_at q t K)
          by (Some g) e = one g e (s.methods g.key) refl
          by None e = ap (is_found K) (sym (same_if_live (λ h i. candidate_lives h (subst (λ x. In h (elim x as (λ x. List Found) [ Some f ↦ f ∷ [] | None ↦ candidates_of p t m.name m.signature ])) e i) i)))
