-- What names find in what is left of a program: where what is found is live, the same.
use Rattle.std.proofs.Common.{◌≡◌, ℕ, zero, suc, Bool, true, false, List, [], ◌∷◌, ◌++◌, length, refl, sym, ap, ◌∙◌, subst, inl, inr}
use Rattle.std.specs.Prelude.{◌⊎◌, ◌&&◌, not, cond, Option, Some, None, map, filter, flat_map}
use Rattle.std.specs.Option.{option_map, option_or}
use Rattle.lemmas.proofs.Options.{none_some, some_same}
use Rattle.dalvik_defs.specs.Names.{Text, text_eq, same_name, is_common}
use Rattle.dalvik_defs.specs.Flags.{is_interface}
use Rattle.dalvik_defs.specs.Under.{class_named, is_own_under}
use Rattle.dalvik_defs.specs.Find.{Found, found_in as found_of, method_in, chain_of, passing, first_method, Nothing, Clash, Finds, is_virtual_method, own_candidate, interface_named, candidates_from, without_repeats, is_037, candidates, is_lowest, lowest, verdict, finds_among}
use Rattle.dalvik_defs.specs.Silence.{key_in}
use Rattle.dalvik_defs.specs.declared.names.Signature.{Signature}
use Rattle.dalvik_defs.specs.declared.program.NamedMethod.{NamedMethod}
use Rattle.dalvik_defs.specs.declared.program.NamedClass.{NamedClass}
use Rattle.dalvik_defs.specs.declared.program.NamedProgram.{NamedProgram}
use Rattle.dalvik_defs.proofs.Calm.{text_sound}
use Rattle.pass_defs.specs.Live.{Family, KeepsAbove}
use Rattle.removal_law.specs.Left.{left_in, left_of}
use Rattle.removal_law.specs.Reach.{IsRegular}
use Rattle.removal_law.proofs.Lists.{clash, In, here, there, any_same, in_front, in_back, in_either, found_in, not_found}
use Rattle.removal_law.proofs.Classes.{Kept}
use Rattle.removal_law.proofs.Members.{key, key_sound, method_left}
use Rattle.removal_law.proofs.Trees.{Tree, absent, present, tree, chain_left, own_under_left}

-- ---- lists

-- what is at the head of a list, or behind it
pub in_cons : {A : Type 0} (x y : A) (xs : List A) → In x (y ∷ xs) → (x ≡ y) ⊎ In x xs
in_cons x y xs (here ys) = inl refl
in_cons x y xs (there z ys i) = inr i

pub in_filter : {A : Type 0} (keep : A → Bool) (x : A) (xs : List A) → In x (filter keep xs) → keep x ≡ true
in_filter keep x [] i = elim i [ ]
in_filter {A} keep x (y ∷ xs) i = by (keep y) refl i (in_filter keep x xs)
  where
    by : (b : Bool) → keep y ≡ b → In x (cond b (y ∷ filter keep xs) (filter keep xs)) → (In x (filter keep xs) → keep x ≡ true) → keep x ≡ true
    by true e j h = elim (in_cons x y (filter keep xs) j) [ inl a ↦ ap keep a ∙ e | inr a ↦ h a ]
    by false e j h = h j

pub in_unfiltered : {A : Type 0} (keep : A → Bool) (x : A) (xs : List A) → In x (filter keep xs) → In x xs
in_unfiltered keep x [] i = i
in_unfiltered {A} keep x (y ∷ xs) i = by (keep y) i (in_unfiltered keep x xs)
  where
    by : (b : Bool) → In x (cond b (y ∷ filter keep xs) (filter keep xs)) → (In x (filter keep xs) → In x xs) → In x (y ∷ xs)
    by true j h = elim (in_cons x y (filter keep xs) j) [ inl a ↦ subst (λ z. In z (y ∷ xs)) (sym a) (here xs) | inr a ↦ there y xs (h a) ]
    by false j h = there y xs (h j)

pub into_filter : {A : Type 0} (keep : A → Bool) (x : A) (xs : List A) → In x xs → keep x ≡ true → In x (filter keep xs)
into_filter keep x [] i e = i
into_filter keep x (y ∷ xs) (here ys) e = subst (λ b. In y (cond b (y ∷ filter keep xs) (filter keep xs))) (sym e) (here (filter keep xs))
into_filter keep x (y ∷ xs) (there z ys i) e = by (keep y) (into_filter keep x xs i e)
  where
    by : (b : Bool) → In x (filter keep xs) → In x (cond b (y ∷ filter keep xs) (filter keep xs))
    by true h = there y (filter keep xs) h
    by false h = h

pub filter_same : {A : Type 0} (f g : A → Bool) (xs : List A) → ((x : A) → In x xs → f x ≡ g x) → filter f xs ≡ filter g xs
filter_same f g [] h = refl
filter_same f g (x ∷ xs) h = ap (λ b. cond b (x ∷ filter f xs) (filter f xs)) (h x (here xs)) ∙ ap (λ ys. cond (g x) (x ∷ ys) ys) (filter_same f g xs (λ y i. h y (there x xs i)))

pub flat_same : {A B : Type 0} (f g : A → List B) (xs : List A) → ((x : A) → In x xs → f x ≡ g x) → flat_map f xs ≡ flat_map g xs
flat_same f g [] h = refl
flat_same f g (x ∷ xs) h = ap (λ ys. ys ++ flat_map f xs) (h x (here xs)) ∙ ap (λ ys. g x ++ ys) (flat_same f g xs (λ y i. h y (there x xs i)))

pub flat_none : {A B : Type 0} (f : A → List B) (xs : List A) → ((x : A) → In x xs → f x ≡ []) → flat_map f xs ≡ []
flat_none f [] h = refl
flat_none f (x ∷ xs) h = ap (λ ys. ys ++ flat_map f xs) (h x (here xs)) ∙ flat_none f xs (λ y i. h y (there x xs i))

pub in_flat : {A B : Type 0} (f : A → List B) (x : A) (y : B) (xs : List A) → In x xs → In y (f x) → In y (flat_map f xs)
in_flat f x y [] i j = elim i [ ]
in_flat f x y (z ∷ xs) (here ys) j = in_front y (f z) (flat_map f xs) j
in_flat f x y (z ∷ xs) (there u ys i) j = in_back y (f z) (flat_map f xs) (in_flat f x y xs i j)

pub out_of_flat : {A B : Type 0} (f : A → List B) (y : B) (xs : List A) → In y (flat_map f xs) → (x : A) × (In x xs × In y (f x))
out_of_flat f y [] i = elim i [ ]
out_of_flat {A} f y (z ∷ xs) i = by (in_either y (f z) (flat_map f xs) i) (out_of_flat f y xs)
  where
    by : In y (f z) ⊎ In y (flat_map f xs) → (In y (flat_map f xs) → (x : A) × (In x xs × In y (f x))) → (x : A) × (In x (z ∷ xs) × In y (f x))
    by (inl j) h = (z, (here xs, j))
    by (inr j) h = let r = h j in (r.0, (there z xs r.1.0, r.1.1))

-- ---- one finds what the other finds, where it is live

abbrev pub Follow : {A : Type 0} → (A → Type 0) → Option A → Option A → Type 0
Follow live None b = b ≡ None
Follow live (Some x) b = live x → b ≡ Some x

pub follow_itself : {A : Type 0} (live : A → Type 0) (a : Option A) → Follow live a a
follow_itself live None = refl
follow_itself live (Some x) = λ l. refl

pub follow_same : {A : Type 0} (live : A → Type 0) (a b : Option A) → Follow live a b → ((x : A) → a ≡ Some x → live x) → b ≡ a
follow_same live None b h l = h
follow_same live (Some x) b h l = h (l x refl)

pub follow_or : {A : Type 0} (live : A → Type 0) (a a' b b' : Option A) → Follow live a a' → Follow live b b' → Follow live (option_or a b) (option_or a' b')
follow_or live None a' b b' h k = subst (λ z. Follow live b (option_or z b')) (sym h) k
follow_or live (Some x) a' b b' h k = λ l. ap (λ z. option_or z b') (h l)

abbrev pub LiveFound : Family → Found → Type 0
LiveFound s f = s.methods f.key ≡ true

module _ (s : Family) where
  pub dead_method : (c : NamedClass) (n : Text) (g : Signature) → s.methods (key c.name n g) ≡ false → method_in (left_in s c) n g ≡ None
  dead_method c n g e = not_found (λ m. same_name m.name m.signature n g) (filter (λ m. s.methods (key_in c m)) c.methods) (λ m i. by m i (same_name m.name m.signature n g) refl)
    where
      by : (m : NamedMethod) → In m (filter (λ m. s.methods (key_in c m)) c.methods) → (b : Bool) → same_name m.name m.signature n g ≡ b → same_name m.name m.signature n g ≡ false
      by m i true j = clash (s.methods (key_in c m)) (in_filter (λ m. s.methods (key_in c m)) m c.methods i) (ap s.methods (key_sound c m n g j) ∙ e)
      by m i false j = j

  pub method_key : (c : NamedClass) (n : Text) (g : Signature) (m : NamedMethod) → method_in c n g ≡ Some m → key_in c m ≡ key c.name n g
  method_key c n g m e = key_sound c m n g (found_in (λ m. same_name m.name m.signature n g) c.methods m e).passes

  module _ (test : NamedMethod → Bool) (n : Text) (g : Signature) where
    class_follows : (c : NamedClass) → Follow (LiveFound s) (passing test c (method_in c n g)) (passing test (left_in s c) (method_in (left_in s c) n g))
    class_follows c = by (s.methods (key c.name n g)) refl
      where
        dead : (o : Option NamedMethod) → method_in c n g ≡ o → s.methods (key c.name n g) ≡ false → Follow (LiveFound s) (passing test c o) None
        dead None i e = refl
        dead (Some m) i e = at (test m)
          where
            at : (b : Bool) → Follow (LiveFound s) (elim b as (λ b. Option Found) [ true ↦ Some (found_of c m) | false ↦ None ]) None
            at true = λ l. clash (s.methods (key_in c m)) l (ap s.methods (method_key c n g m i) ∙ e)
            at false = refl

        by : (b : Bool) → s.methods (key c.name n g) ≡ b → Follow (LiveFound s) (passing test c (method_in c n g)) (passing test (left_in s c) (method_in (left_in s c) n g))
        by true e = subst (λ o. Follow (LiveFound s) (passing test c (method_in c n g)) (passing test (left_in s c) o)) (sym (method_left s c n g e)) (follow_itself (LiveFound s) (passing test c (method_in c n g)))
        by false e = subst (λ o. Follow (LiveFound s) (passing test c (method_in c n g)) (passing test (left_in s c) o)) (sym (dead_method c n g e)) (dead (method_in c n g) refl e)

    pub first_follows : (cs : List NamedClass) → Follow (LiveFound s) (first_method test n g cs) (first_method test n g (map (left_in s) cs))
    first_follows [] = refl
    first_follows (c ∷ cs) = follow_or (LiveFound s) (passing test c (method_in c n g)) (passing test (left_in s c) (method_in (left_in s c) n g)) (first_method test n g cs) (first_method test n g (map (left_in s) cs))
        (class_follows c) (first_follows cs)

-- where a method was found
pub record Where (test : NamedMethod → Bool) (n : Text) (g : Signature) (cs : List NamedClass) (f : Found) : Type 0 where
  pub class : NamedClass
  pub method : NamedMethod
  pub stands : In class cs
  pub found : method_in class n g ≡ Some method
  pub passes : test method ≡ true
  pub is : found_of class method ≡ f

module _ (test : NamedMethod → Bool) (n : Text) (g : Signature) where
  pub passed : (c : NamedClass) (o : Option NamedMethod) (f : Found) → method_in c n g ≡ o → passing test c o ≡ Some f → (cs : List NamedClass) → Where test n g (c ∷ cs) f
  passed c None f i e cs = none_some f e
  passed c (Some m) f i e cs = by (test m) refl e
    where
      by : (b : Bool) → test m ≡ b → (elim b as (λ b. Option Found) [ true ↦ Some (found_of c m) | false ↦ None ]) ≡ Some f → Where test n g (c ∷ cs) f
      by true j k = record { class = c; method = m; stands = here cs; found = i; passes = j; is = some_same (found_of c m) f k }
      by false j k = none_some f k

  behind : (c : NamedClass) (cs : List NamedClass) (f : Found) → Where test n g cs f → Where test n g (c ∷ cs) f
  behind c cs f w = record { class = w.class; method = w.method; stands = there c cs w.stands; found = w.found; passes = w.passes; is = w.is }

  pub first_where : (cs : List NamedClass) (f : Found) → first_method test n g cs ≡ Some f → Where test n g cs f
  first_where [] f e = none_some f e
  first_where (c ∷ cs) f e = by (passing test c (method_in c n g)) refl e (first_where cs f)
    where
      by : (o : Option Found) → passing test c (method_in c n g) ≡ o → option_or o (first_method test n g cs) ≡ Some f → (first_method test n g cs ≡ Some f → Where test n g cs f) → Where test n g (c ∷ cs) f
      by None i j h = behind c cs f (h j)
      by (Some x) i j h = passed c (method_in c n g) f refl (i ∙ j) cs

pub where_key : (s : Family) (test : NamedMethod → Bool) (n : Text) (g : Signature) (cs : List NamedClass) (f : Found) (w : Where test n g cs f) → f.key ≡ key w.class.name n g
where_key s test n g cs f w = ap (λ x. x.key) (sym w.is) ∙ method_key s w.class n g w.method w.found

-- ---- the first along a class and its superclasses

module _ (p : NamedProgram) (s : Family) (above : KeepsAbove p s) (regular : IsRegular p) where
  abbrev q : NamedProgram
  q = left_of s p

  pub chain_same : (t : Text) → Kept s p t → chain_of q t ≡ map (left_in s) (chain_of p t)
  chain_same t h = chain_left p s above (length q.classes) (length p.classes) t (tree p s above regular t h)

  pub chain_follows : (test : NamedMethod → Bool) (n : Text) (g : Signature) (t : Text) → Kept s p t → Follow (LiveFound s) (first_method test n g (chain_of p t)) (first_method test n g (chain_of q t))
  chain_follows test n g t h = subst (λ cs. Follow (LiveFound s) (first_method test n g (chain_of p t)) (first_method test n g cs)) (sym (chain_same t h)) (first_follows s test n g (chain_of p t))

  pub chain_first : (test : NamedMethod → Bool) (n : Text) (g : Signature) (t : Text) → Kept s p t → ((f : Found) → first_method test n g (chain_of p t) ≡ Some f → s.methods f.key ≡ true)
      → first_method test n g (chain_of q t) ≡ first_method test n g (chain_of p t)
  chain_first test n g t h l = follow_same (LiveFound s) (first_method test n g (chain_of p t)) (first_method test n g (chain_of q t)) (chain_follows test n g t h) l

  -- ---- candidates of interfaces

  abbrev pub Trees : ℕ → ℕ → List Text → Type 0
  Trees n m ts = (t : Text) → In t ts → Tree p s above n m t

  abbrev named_in : Option NamedClass → Option NamedClass
  named_in o = elim o as (λ o. Option NamedClass) [ Some c ↦ elim (is_interface c.flags) as (λ b. Option NamedClass) [ true ↦ Some c | false ↦ None ] | None ↦ None ]

  pub interface_left : (n m : ℕ) (t : Text) → Tree p s above n m t → interface_named q t ≡ option_map (left_in s) (interface_named p t)
  interface_left n m t (absent k l u e i) = ap named_in i ∙ sym (ap (λ o. option_map (left_in s) (named_in o)) e)
  interface_left (suc n) (suc m) t (present k l u c e i sub) = ap named_in i ∙ at (is_interface c.flags) ∙ sym (ap (λ o. option_map (left_in s) (named_in o)) e)
    where
      at : (b : Bool) → (elim b as (λ b. Option NamedClass) [ true ↦ Some (left_in s c) | false ↦ None ]) ≡ option_map (left_in s) (elim b as (λ b. Option NamedClass) [ true ↦ Some c | false ↦ None ])
      at true = refl
      at false = refl

  pub interface_class : (t : Text) (c : NamedClass) → interface_named p t ≡ Some c → class_named p t ≡ Some c
  interface_class t c e = by (class_named p t) e
    where
      at : (d : NamedClass) (b : Bool) → (elim b as (λ b. Option NamedClass) [ true ↦ Some d | false ↦ None ]) ≡ Some c → Some d ≡ Some c
      at d true i = i
      at d false i = none_some c i

      by : (o : Option NamedClass) → named_in o ≡ Some c → o ≡ Some c
      by None i = none_some c i
      by (Some d) i = at d (is_interface d.flags) i

  -- the trees above an interface
  pub trees_up : (n m : ℕ) (t : Text) (c : NamedClass) → Tree p s above (suc n) (suc m) t → class_named p t ≡ Some c → Trees n m (c.superclass ∷ c.interfaces)
  trees_up n m t c (absent k l u e i) j = none_some c (sym e ∙ j)
  trees_up n m t c (present k l u d e i sub) j = subst (λ x. Trees n m (x.superclass ∷ x.interfaces)) (some_same d c (sym e ∙ j)) sub

  pub zero_left : (m : ℕ) (t : Text) → Tree p s above zero m t → class_named p t ≡ None
  zero_left m t (absent k l u e i) = e

  pub zero_right : (n : ℕ) (t : Text) → Tree p s above n zero t → class_named p t ≡ None
  zero_right n t (absent k l u e i) = e

  none_left : (n m : ℕ) (t : Text) → Tree p s above n m t → class_named p t ≡ None → interface_named q t ≡ None
  none_left n m t h e = interface_left n m t h ∙ ap (λ o. option_map (left_in s) (named_in o)) e

  module _ (n : Text) (g : Signature) where
    abbrev step_of : ℕ → NamedProgram → Option NamedClass → List Found
    step_of k r o = elim o as (λ o. List Found) [ Some c ↦ own_candidate n g c ++ candidates_from k r n g c.interfaces | None ↦ [] ]

    -- a candidate of a class
    own_same : (c : NamedClass) → ((f : Found) → In f (own_candidate n g c) → s.methods f.key ≡ true) → own_candidate n g (left_in s c) ≡ own_candidate n g c
    own_same c l = ap (λ o. elim o as (λ o. List Found) [ Some f ↦ f ∷ [] | None ↦ [] ])
        (follow_same (LiveFound s) (passing is_virtual_method c (method_in c n g)) (passing is_virtual_method (left_in s c) (method_in (left_in s c) n g)) (class_follows s is_virtual_method n g c)
        (λ f e. l f (subst (λ o. In f (elim o as (λ o. List Found) [ Some f ↦ f ∷ [] | None ↦ [] ])) (sym e) (here []))))

    cand_same : (i j : ℕ) (ts : List Text) → Trees i j ts → ((f : Found) → In f (candidates_from j p n g ts) → s.methods f.key ≡ true) → candidates_from i q n g ts ≡ candidates_from j p n g ts
    cand_same zero zero ts h l = refl
    cand_same zero (suc j) ts h l = sym (flat_none (λ t. step_of j p (interface_named p t)) ts (λ t k. ap (λ o. step_of j p (named_in o)) (zero_left (suc j) t (h t k))))
    cand_same (suc i) zero ts h l = flat_none (λ t. step_of i q (interface_named q t)) ts (λ t k. ap (step_of i q) (none_left (suc i) zero t (h t k) (zero_right (suc i) t (h t k))))
    cand_same (suc i) (suc j) ts h l = flat_same (λ t. step_of i q (interface_named q t)) (λ t. step_of j p (interface_named p t)) ts
        (λ t k. at t k (λ us a b. cand_same i j us a b))
      where
        at : (t : Text) → In t ts → ((us : List Text) → Trees i j us → ((f : Found) → In f (candidates_from j p n g us) → s.methods f.key ≡ true) → candidates_from i q n g us ≡ candidates_from j p n g us)
            → step_of i q (interface_named q t) ≡ step_of j p (interface_named p t)
        at t k ih = ap (step_of i q) (interface_left (suc i) (suc j) t (h t k)) ∙ by (interface_named p t) refl
          where
            by : (o : Option NamedClass) → interface_named p t ≡ o → step_of i q (option_map (left_in s) o) ≡ step_of j p o
            by None e = refl
            by (Some c) e =
                ap (λ fs. fs ++ candidates_from i q n g c.interfaces) (own_same c (λ f a. l f (in_flat (λ t. step_of j p (interface_named p t)) t f ts k
                (subst (λ o. In f (step_of j p o)) (sym e) (in_front f (own_candidate n g c) (candidates_from j p n g c.interfaces) a)))))
                ∙ ap (λ fs. own_candidate n g c ++ fs) (ih c.interfaces (λ u a. trees_up i j t c (h t k) (interface_class t c e) u (there c.superclass c.interfaces a))
                (λ f a. l f (in_flat (λ t. step_of j p (interface_named p t)) t f ts k
                (subst (λ o. In f (step_of j p o)) (sym e) (in_back f (own_candidate n g c) (candidates_from j p n g c.interfaces) a)))))

    -- each has the name and the signature
    abbrev Keyed : List Found → Type 0
    Keyed fs = (f : Found) → In f fs → f.key ≡ key f.key.class n g

    own_keyed : (c : NamedClass) → Keyed (own_candidate n g c)
    own_keyed c f i = by (passing is_virtual_method c (method_in c n g)) refl i
      where
        at : (x : Found) → passing is_virtual_method c (method_in c n g) ≡ Some x → In f (x ∷ []) → f.key ≡ key f.key.class n g
        at x e (here ys) = let w = passed is_virtual_method n g c (method_in c n g) f refl e [] in
            let k = where_key s is_virtual_method n g (c ∷ []) f w in k ∙ ap (λ t. key t n g) (sym (ap (λ z. z.class) k))
        at x e (there y ys j) = elim j [ ]

        by : (o : Option Found) → passing is_virtual_method c (method_in c n g) ≡ o → In f (elim o as (λ o. List Found) [ Some x ↦ x ∷ [] | None ↦ [] ]) → f.key ≡ key f.key.class n g
        by None e j = elim j [ ]
        by (Some x) e j = at x e j

    cand_keyed : (r : NamedProgram) (i : ℕ) (ts : List Text) → Keyed (candidates_from i r n g ts)
    cand_keyed r zero ts f k = elim k [ ]
    cand_keyed r (suc i) ts f k = by (interface_named r w.0) w.1.1 (λ us a. cand_keyed r i us f a)
      where
        w : (t : Text) × (In t ts × In f (step_of i r (interface_named r t)))
        w = out_of_flat (λ t. step_of i r (interface_named r t)) f ts k

        by : (o : Option NamedClass) → In f (step_of i r o) → ((us : List Text) → In f (candidates_from i r n g us) → f.key ≡ key f.key.class n g) → f.key ≡ key f.key.class n g
        by None a ih = elim a [ ]
        by (Some c) a ih = either (in_either f (own_candidate n g c) (candidates_from i r n g c.interfaces) a)
          where
            either : In f (own_candidate n g c) ⊎ In f (candidates_from i r n g c.interfaces) → f.key ≡ key f.key.class n g
            either (inl b) = own_keyed c f b
            either (inr b) = ih c.interfaces b

    -- each that was dropped as a repetition is of the class of one that wasn't
    pub once : (fs : List Found) (f : Found) → In f fs → (x : Found) × (In x (without_repeats fs) × (f.key.class ≡ x.key.class))
    once [] f i = elim i [ ]
    once (y ∷ fs) f (here ys) = (y, (here (filter (λ g. not (text_eq g.key.class y.key.class)) (without_repeats fs)), refl))
    once (y ∷ fs) f (there z ys i) = by (once fs f i)
      where
        by : (x : Found) × (In x (without_repeats fs) × (f.key.class ≡ x.key.class)) → (x : Found) × (In x (without_repeats (y ∷ fs)) × (f.key.class ≡ x.key.class))
        by w = at (text_eq w.0.key.class y.key.class) refl
          where
            at : (b : Bool) → text_eq w.0.key.class y.key.class ≡ b → (x : Found) × (In x (without_repeats (y ∷ fs)) × (f.key.class ≡ x.key.class))
            at true e = (y, (here (filter (λ g. not (text_eq g.key.class y.key.class)) (without_repeats fs)), w.1.1 ∙ text_sound w.0.key.class y.key.class e))
            at false e = (w.0, (there y (filter (λ g. not (text_eq g.key.class y.key.class)) (without_repeats fs)) (into_filter (λ g. not (text_eq g.key.class y.key.class)) w.0 (without_repeats fs) w.1.0 (ap not e)), w.1.1))

    pub repeats_in : (fs : List Found) (f : Found) → In f (without_repeats fs) → In f fs
    repeats_in [] f i = i
    repeats_in (y ∷ fs) f (here ys) = here fs
    repeats_in (y ∷ fs) f (there z ys i) = there y fs (repeats_in fs f (in_unfiltered (λ g. not (text_eq g.key.class y.key.class)) f (without_repeats fs) i))

    all_live : (fs : List Found) → Keyed fs → ((f : Found) → In f (without_repeats fs) → s.methods f.key ≡ true) → (f : Found) → In f fs → s.methods f.key ≡ true
    all_live fs k l f i = let w = once fs f i in
        let a : f.key ≡ key w.0.key.class n g = k f i ∙ ap (λ t. key t n g) w.1.1 in
        ap s.methods (a ∙ sym (k w.0 (repeats_in fs w.0 w.1.0))) ∙ l w.0 w.1.0

    given_if : Bool → List Found → List Found
    given_if b fs = elim b as (λ b. List Found) [ true ↦ fs | false ↦ [] ]

    pub candidates_left : (ts : List Text) → ((t : Text) → In t ts → Kept s p t) → ((f : Found) → In f (candidates p ts n g) → s.methods f.key ≡ true) → candidates q ts n g ≡ candidates p ts n g
    candidates_left ts h l = by (is_037 p.version && not (is_common n g)) l
      where
        by : (b : Bool) → ((f : Found) → In f (elim b as (λ b. List Found) [ true ↦ without_repeats (candidates_from (length p.classes) p n g ts) | false ↦ [] ]) → s.methods f.key ≡ true)
            → (elim b as (λ b. List Found) [ true ↦ without_repeats (candidates_from (length q.classes) q n g ts) | false ↦ [] ]) ≡ (elim b as (λ b. List Found) [ true ↦ without_repeats (candidates_from (length p.classes) p n g ts) | false ↦ [] ])
        by true m = ap without_repeats (cand_same (length q.classes) (length p.classes) ts (λ t i. tree p s above regular t (h t i))
            (all_live (candidates_from (length p.classes) p n g ts) (cand_keyed p (length p.classes) ts) m))
        by false m = refl

  -- ---- the lowest of them

  lowest_left : (fs : List Found) → ((f : Found) → In f fs → Kept s p f.key.class) → lowest q fs ≡ lowest p fs
  lowest_left fs h = filter_same (λ f. f.coded && is_lowest q fs f) (λ f. f.coded && is_lowest p fs f) fs (λ f i. ap (λ b. f.coded && not b)
      (any_same (λ g. not (text_eq g.key.class f.key.class) && is_own_under q g.key.class f.key.class) (λ g. not (text_eq g.key.class f.key.class) && is_own_under p g.key.class f.key.class) fs
      (λ g j. ap (λ b. not (text_eq g.key.class f.key.class) && b) (own_under_left p s above regular g.key.class f.key.class (h g j)))))

  pub among_left : (ts : List Text) (n : Text) (g : Signature) → ((t : Text) → In t ts → Kept s p t) → ((f : Found) → In f (candidates p ts n g) → s.methods f.key ≡ true)
      → ((f : Found) → s.methods f.key ≡ true → Kept s p f.key.class) → finds_among q ts n g ≡ finds_among p ts n g
  among_left ts n g h l k = ap (λ fs. verdict (lowest q fs)) (candidates_left n g ts h l) ∙ ap verdict (lowest_left (candidates p ts n g) (λ f i. k f (l f i)))

  -- what the candidates give is one of them
  verdict_in : (fs : List Found) (f : Found) → verdict fs ≡ Finds f → In f fs
  verdict_in [] f e = clash true refl (ap (λ x. elim x as (λ x. Bool) [ Nothing ↦ true | Clash ↦ true | Finds f ↦ false ]) e)
  verdict_in (x ∷ []) f e = subst (λ z. In z (x ∷ [])) (ap (λ y. elim y as (λ y. Found) [ Nothing ↦ x | Clash ↦ x | Finds f ↦ f ]) e) (here [])
  verdict_in (x ∷ y ∷ fs) f e = clash true refl (ap (λ x. elim x as (λ x. Bool) [ Nothing ↦ true | Clash ↦ true | Finds f ↦ false ]) e)

  pub among_in : (ts : List Text) (n : Text) (g : Signature) (f : Found) → finds_among p ts n g ≡ Finds f → In f (candidates p ts n g)
  among_in ts n g f e = in_unfiltered (λ f. f.coded && is_lowest p (candidates p ts n g) f) f (candidates p ts n g) (verdict_in (lowest p (candidates p ts n g)) f e)
