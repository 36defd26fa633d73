-- A walk takes each class above some classes once, in the order in which a class comes before those above it.
use Rattle.std.proofs.Common.{◌≡◌, ℕ, zero, suc, ◌<◌, ◌≤◌, ◌⊎◌, inl, inr, Bool, true, false, true≢false, nat_eq, List, [], ◌∷◌, ◌++◌, length, Option, refl, sym, ap, subst, ◌∙◌, arith, append_assoc, ltb-true, lt-ltb}
use Rattle.std.specs.Prelude.{◌&&◌, ◌||◌, not, cond, slice_index_or, slice_set, nat_lt, filter, flat_map}
use Rattle.std.specs.List.{list_all}
use Rattle.std.proofs.lemmas.Grind.{flat_map-append}
use Rattle.std.proofs.lemmas.List.Elements.{filter-append}
use Rattle.class_defs.proofs.Positions.{number_test, number_of, same_test}
use Rattle.class_defs.proofs.WellFormed.{and_left, and_right}
use Rattle.hierarchy.specs.Climbing.{In}
use Rattle.hierarchy.specs.Walking.{Skips, Opens}
use Rattle.hierarchy.proofs.Above.{in_left, in_right, in_split}
use Rattle.hierarchy.proofs.Circles.{stays_seen, is_seen_now}
use Rattle.hierarchy.proofs.Deep.{all_join}
use Rattle.hierarchy.proofs.Marks.{marked_at, set_size}

-- a class and then those above it, each in turn, so many steps up
abbrev pub tree : (ℕ → List ℕ) → ℕ → ℕ → ℕ → List ℕ
tree above n zero c = []
tree above n (suc m) c = cond (nat_lt c n) (c ∷ flat_map (tree above n m) (above c)) []

-- each class where it comes first
abbrev pub distinct : List ℕ → List ℕ
distinct [] = []
distinct (c ∷ cs) = c ∷ filter (λ d. not (nat_eq d c)) (distinct cs)

-- those that aren't seen
abbrev pub unseen : List Bool → List ℕ → List ℕ
unseen seen cs = filter (λ d. not (slice_index_or seen d false)) cs

-- ---- filters

filter_all : (t : ℕ → Bool) → ((d : ℕ) → t d ≡ true) → (cs : List ℕ) → filter t cs ≡ cs
filter_all t h [] = refl
filter_all t h (c ∷ cs) = ap (λ b. cond b (c ∷ filter t cs) (filter t cs)) (h c) ∙ ap (λ l. c ∷ l) (filter_all t h cs)

filter_none : (t : ℕ → Bool) (cs : List ℕ) → ((d : ℕ) → In d cs → t d ≡ false) → filter t cs ≡ []
filter_none t [] h = refl
filter_none t (c ∷ cs) h = ap (λ b. cond b (c ∷ filter t cs) (filter t cs)) (h c (inl refl)) ∙ filter_none t cs (λ d i. h d (inr i))

-- one filter after another
pub filter_two : {X : Type 0} (t q r : X → Bool) → ((x : X) → t x ≡ cond (q x) (r x) false) → (xs : List X) → filter t xs ≡ filter r (filter q xs)
filter_two t q r h [] = refl
filter_two t q r h (x ∷ xs) = by_test (filter_two t q r h xs) (q x) (h x)
  where
    by_test : filter t xs ≡ filter r (filter q xs) → (b : Bool) → t x ≡ cond b (r x) false → cond (t x) (x ∷ filter t xs) (filter t xs) ≡ filter r (cond b (x ∷ filter q xs) (filter q xs))
    by_test more true e = ap (λ b. cond b (x ∷ filter t xs) (filter t xs)) e ∙ ap (λ l. cond (r x) (x ∷ l) l) more
    by_test more false e = ap (λ b. cond b (x ∷ filter t xs) (filter t xs)) e ∙ more

two_ways : (a b : Bool) → cond a b false ≡ cond b a false
two_ways true true = refl
two_ways true false = refl
two_ways false true = refl
two_ways false false = refl

pub filter_swap : {X : Type 0} (q r : X → Bool) (xs : List X) → filter q (filter r xs) ≡ filter r (filter q xs)
filter_swap q r xs = sym (filter_two (λ x. cond (r x) (q x) false) r q (λ x. refl) xs) ∙ filter_two (λ x. cond (r x) (q x) false) q r (λ x. two_ways (r x) (q x)) xs

-- what the second filter drops is dropped by the first as well
pub filter_within : {X : Type 0} (q r : X → Bool) → ((x : X) → r x ≡ false → q x ≡ false) → (xs : List X) → filter q (filter r xs) ≡ filter q xs
filter_within q r h xs = sym (filter_two q r q (λ x. by_test x (r x) refl) xs)
  where
    by_test : (x : _) (b : Bool) → r x ≡ b → q x ≡ cond b (q x) false
    by_test x true e = refl
    by_test x false e = h x e

pub apart : (a b : ℕ) → not (nat_eq a b) ≡ false → a ≡ b
apart a b e = by_test (nat_eq a b) refl e
  where
    by_test : (t : Bool) → nat_eq a b ≡ t → not t ≡ false → a ≡ b
    by_test true f g = number_of a b f
    by_test false f g = absurd (true≢false g)

distinct_filter : (q : ℕ → Bool) (cs : List ℕ) → filter q (distinct cs) ≡ distinct (filter q cs)
distinct_filter q [] = refl
distinct_filter q (c ∷ cs) = by_test (distinct_filter q cs) (q c) refl
  where
    by_test : filter q (distinct cs) ≡ distinct (filter q cs) → (b : Bool) → q c ≡ b → cond b (c ∷ filter q (filter (λ d. not (nat_eq d c)) (distinct cs))) (filter q (filter (λ d. not (nat_eq d c)) (distinct cs))) ≡ distinct (cond b (c ∷ filter q cs) (filter q cs))
    by_test more true e = ap (λ l. c ∷ l) (filter_swap q (λ d. not (nat_eq d c)) (distinct cs) ∙ ap (filter (λ d. not (nat_eq d c))) more)
    by_test more false e = filter_within q (λ d. not (nat_eq d c)) (λ d f. ap q (apart d c f) ∙ e) (distinct cs) ∙ more

-- ---- marks

set_is : (seen : List Bool) (x d : ℕ) → x < length seen → slice_index_or (slice_set seen x true) d false ≡ (nat_eq d x || slice_index_or seen d false)
set_is seen x d lt = same_test (slice_index_or (slice_set seen x true) d false) (nat_eq d x || slice_index_or seen d false)
    (λ e. elim (marked_at seen x d e) [
      | inl s ↦ ap (λ b. b || slice_index_or seen d false) (number_test d x s)
      | inr f ↦ or_right (nat_eq d x) (slice_index_or seen d false) f
    ])
    (λ e. by_test (nat_eq d x) refl e)
  where
    or_right : (a b : Bool) → b ≡ true → (a || b) ≡ true
    or_right true b e = refl
    or_right false b e = e

    by_test : (b : Bool) → nat_eq d x ≡ b → (b || slice_index_or seen d false) ≡ true → slice_index_or (slice_set seen x true) d false ≡ true
    by_test true f e = ap (λ w. slice_index_or (slice_set seen x true) w false) (number_of d x f) ∙ is_seen_now seen x lt
    by_test false f e = stays_seen seen x d e

unseen_set : (seen : List Bool) (x : ℕ) (cs : List ℕ) → x < length seen → unseen (slice_set seen x true) cs ≡ filter (λ d. not (nat_eq d x)) (unseen seen cs)
unseen_set seen x cs lt = filter_two (λ d. not (slice_index_or (slice_set seen x true) d false)) (λ d. not (slice_index_or seen d false)) (λ d. not (nat_eq d x))
    (λ d. ap not (set_is seen x d lt) ∙ parts (nat_eq d x) (slice_index_or seen d false)) cs
  where
    parts : (a b : Bool) → not (a || b) ≡ cond (not b) (not a) false
    parts true true = refl
    parts true false = refl
    parts false true = refl
    parts false false = refl

-- ---- members

pub record Among (f : ℕ → List ℕ) (cs : List ℕ) (d : ℕ) : Type 0 where
  pub at : ℕ
  pub there : In at cs
  pub is : In d (f at)

pub among : (f : ℕ → List ℕ) (cs : List ℕ) (d : ℕ) → In d (flat_map f cs) → Among f cs d
among f [] d i = absurd i
among f (c ∷ cs) d i = elim (in_split d (f c) (flat_map f cs) i) [
  | inl j ↦ record { at = c; there = inl refl; is = j }
  | inr j ↦ let r = among f cs d j in record { at = r.at; there = inr r.there; is = r.is }
]

pub in_flat : (f : ℕ → List ℕ) (cs : List ℕ) (u d : ℕ) → In u cs → In d (f u) → In d (flat_map f cs)
in_flat f [] u d i j = absurd i
in_flat f (c ∷ cs) u d (inl s) j = in_left d (f c) (flat_map f cs) (subst (λ w. In d (f w)) s j)
in_flat f (c ∷ cs) u d (inr i) j = in_right d (f c) (flat_map f cs) (in_flat f cs u d i j)

module _ (above : ℕ → List ℕ) (rank : ℕ → ℕ) (n : ℕ) (lower : (c : ℕ) → list_all (λ u. nat_lt (rank u) (rank c)) (above c) ≡ true) (short : (c : ℕ) → c < n → rank c < n) where
  same_on : (m m' r : ℕ) → ((u : ℕ) → rank u < r → tree above n m u ≡ tree above n m' u) → (us : List ℕ) → list_all (λ u. nat_lt (rank u) r) us ≡ true → flat_map (tree above n m) us ≡ flat_map (tree above n m') us
  same_on m m' r h [] all = refl
  same_on m m' r h (u ∷ us) all =
      ap (λ l. l ++ flat_map (tree above n m) us) (h u (ltb-true (rank u) r (and_left (nat_lt (rank u) r) (list_all (λ u. nat_lt (rank u) r) us) all)))
      ∙ ap (λ l. tree above n m' u ++ l) (same_on m m' r h us (and_right (nat_lt (rank u) r) (list_all (λ u. nat_lt (rank u) r) us) all))

  stable : (m m' c : ℕ) → rank c < m → rank c < m' → tree above n m c ≡ tree above n m' c
  stable zero m' c l l' = absurd (omega (arith, l))
  stable (suc m) zero c l l' = absurd (omega (arith, l'))
  stable (suc m) (suc m') c l l' = ap (λ us. cond (nat_lt c n) (c ∷ us) []) (same_on m m' (rank c) (λ u lt. stable m m' u (omega (arith, lt, l)) (omega (arith, lt, l'))) (above c) (lower c))

  abbrev pub D : ℕ → List ℕ
  D c = tree above n n c

  pub step_up : (c : ℕ) → c < n → D c ≡ c ∷ flat_map D (above c)
  step_up c lt = stable n (suc n) c (short c lt) (let s = short c lt in omega (arith, s)) ∙ ap (λ b. cond b (c ∷ flat_map D (above c)) []) (lt-ltb c n lt)

  not_lt : (c : ℕ) → n ≤ c → nat_lt c n ≡ false
  not_lt c le = by_test (nat_lt c n) refl
    where
      by_test : (b : Bool) → nat_lt c n ≡ b → b ≡ false
      by_test false e = refl
      by_test true e = let l = ltb-true c n e in absurd (omega (arith, l, le))

  none_past : (m c : ℕ) → n ≤ c → tree above n m c ≡ []
  none_past zero c le = refl
  none_past (suc m) c le = ap (λ b. cond b (c ∷ flat_map (tree above n m) (above c)) []) (not_lt c le)

  -- what waits for a class that is seen: all above it are seen, or above the front
  pub record Front (seen : List Bool) (stack : List ℕ) (c : ℕ) : Type 0 where
    pub front : List ℕ
    pub back : List ℕ
    pub split : stack ≡ front ++ back
    pub beneath : list_all (λ u. nat_lt (rank u) (rank c)) front ≡ true
    pub covered : (d : ℕ) → In d (D c) → (slice_index_or seen d false ≡ true) ⊎ In d (flat_map D front)

  -- so much of a walk is done from some classes: what it gave, what is seen, and what waits
  pub record Going {X : Type 0} (gives : ℕ → List X) (start : List ℕ) (seen : List Bool) (stack : List ℕ) (out whole : List X) : Type 0 where
    pub total : out ++ flat_map gives (distinct (unseen seen (flat_map D stack))) ≡ whole
    pub fronts : (c : ℕ) → slice_index_or seen c false ≡ true → Front seen stack c
    pub size : length seen ≡ n
    pub from : (c : ℕ) → slice_index_or seen c false ≡ true → In c (flat_map D start)
    pub all : (c : ℕ) → In c (flat_map D start) → (slice_index_or seen c false ≡ true) ⊎ In c (flat_map D stack)
    pub rest : (c : ℕ) → In c (flat_map D stack) → In c (flat_map D start)

  pub begins : {X : Type 0} (gives : ℕ → List X) (seen : List Bool) (stack : List ℕ) (out : List X) → length seen ≡ n → ((c : ℕ) → slice_index_or seen c false ≡ true → ⊥)
      → Going gives stack seen stack out (out ++ flat_map gives (distinct (flat_map D stack)))
  begins gives seen stack out size none = record {
    total = ap (λ l. out ++ flat_map gives (distinct l)) (filter_all (λ d. not (slice_index_or seen d false)) (λ d. by_test d (slice_index_or seen d false) refl) (flat_map D stack));
    fronts = λ c e. absurd (none c e);
    size = size;
    from = λ c e. absurd (none c e);
    all = λ c i. inr i;
    rest = λ c i. i;
  }
    where
      by_test : (d : ℕ) (b : Bool) → slice_index_or seen d false ≡ b → not b ≡ true
      by_test d true e = absurd (none d e)
      by_test d false e = refl

  append_none : {X : Type 0} (xs : List X) → xs ++ [] ≡ xs
  append_none [] = refl
  append_none (x ∷ xs) = ap (λ l. x ∷ l) (append_none xs)

  pub ends : {X : Type 0} (gives : ℕ → List X) (start : List ℕ) (seen : List Bool) (stack : List ℕ) (out whole : List X) → stack ≡ [] → Going gives start seen stack out whole → out ≡ whole
  ends gives start seen stack out whole e g = sym (append_none out) ∙ ap (λ l. out ++ flat_map gives (distinct (unseen seen (flat_map D l)))) (sym e) ∙ g.total

  pub sees : {X : Type 0} (gives : ℕ → List X) (start : List ℕ) (seen : List Bool) (stack : List ℕ) (out whole : List X) (c : ℕ) → stack ≡ [] → Going gives start seen stack out whole → In c (flat_map D start) → slice_index_or seen c false ≡ true
  sees gives start seen stack out whole c e g i = elim (g.all c i) [ inl s ↦ s | inr j ↦ absurd (subst (λ l. In c (flat_map D l)) e j) ]

  -- all above a class that is seen and waits first are seen
  itself : (seen : List Bool) (rest : List ℕ) (x : ℕ) → Front seen (x ∷ rest) x → (d : ℕ) → In d (D x) → slice_index_or seen d false ≡ true
  itself seen rest x f d i = by_front f.front f.split f.beneath (f.covered d i)
    where
      by_front : (front : List ℕ) → x ∷ rest ≡ front ++ f.back → list_all (λ u. nat_lt (rank u) (rank x)) front ≡ true → (slice_index_or seen d false ≡ true) ⊎ In d (flat_map D front) → slice_index_or seen d false ≡ true
      by_front front e b (inl s) = s
      by_front [] e b (inr j) = absurd j
      by_front (z ∷ zs) e b (inr j) =
          let same : z ≡ x = cc in
          let lt = ltb-true (rank z) (rank x) (and_left (nat_lt (rank z) (rank x)) (list_all (λ u. nat_lt (rank u) (rank x)) zs) b) in
          absurd (let eq : rank z ≡ rank x = ap rank same in omega (arith, lt, eq))

  none_of : (x d : ℕ) → n ≤ x → In d (D x) → ⊥
  none_of x d le i = subst (In d) (none_past n x le) i

  pub skips : {X : Type 0} (gives : ℕ → List X) (start : List ℕ) (seen seen' : List Bool) (stack rest stack' : List ℕ) (x : ℕ) (r : Option ℕ) (out whole : List X) → stack ≡ x ∷ rest → Skips seen rest x seen' stack' r → Going gives start seen stack out whole → Going gives start seen' stack' out whole
  skips gives start seen seen' stack rest stack' x r out whole e k g =
      let g' : Going gives start seen (x ∷ rest) out whole = subst (λ l. Going gives start seen l out whole) e g in
      subst (λ l. Going gives start l stack' out whole) (sym k.same) (subst (λ l. Going gives start seen l out whole) (sym k.rest) (record {
        total = ap (λ l. out ++ flat_map gives (distinct l)) (sym (filter-append (λ d. not (slice_index_or seen d false)) (D x) (flat_map D rest)
            ∙ ap (λ l. l ++ unseen seen (flat_map D rest)) (filter_none (λ d. not (slice_index_or seen d false)) (D x) (λ d i. ap not (known g' k.why d i))))) ∙ g'.total;
        fronts = λ c s. fewer_front g' c (g'.fronts c s);
        size = g'.size;
        from = g'.from;
        all = λ c i. elim (g'.all c i) [ inl s ↦ inl s | inr j ↦ elim (in_split c (D x) (flat_map D rest) j) [ inl h ↦ inl (known g' k.why c h) | inr h ↦ inr h ] ];
        rest = λ c i. g'.rest c (in_right c (D x) (flat_map D rest) i);
      }))
    where
      known : Going gives start seen (x ∷ rest) out whole → (slice_index_or seen x false ≡ true) ⊎ (length seen ≤ x) → (d : ℕ) → In d (D x) → slice_index_or seen d false ≡ true
      known g (inl s) d i = itself seen rest x (g.fronts x s) d i
      known g (inr le) d i = let z = g.size in absurd (none_of x d (omega (arith, le, z)) i)

      fewer_front : Going gives start seen (x ∷ rest) out whole → (c : ℕ) → Front seen (x ∷ rest) c → Front seen rest c
      fewer_front g c f = by_front f.front f.split f.beneath f.covered
        where
          by_front : (front : List ℕ) → x ∷ rest ≡ front ++ f.back → list_all (λ u. nat_lt (rank u) (rank c)) front ≡ true → ((d : ℕ) → In d (D c) → (slice_index_or seen d false ≡ true) ⊎ In d (flat_map D front)) → Front seen rest c
          by_front [] e a s = record { front = []; back = rest; split = refl; beneath = refl; covered = s }
          by_front (z ∷ zs) e a s =
              let same : z ≡ x = cc in
              let tail : rest ≡ zs ++ f.back = cc in
              record {
                front = zs;
                back = f.back;
                split = tail;
                beneath = and_right (nat_lt (rank z) (rank c)) (list_all (λ u. nat_lt (rank u) (rank c)) zs) a;
                covered = λ d i. elim (s d i) [ inl h ↦ inl h | inr j ↦ elim (in_split d (D z) (flat_map D zs) j) [ inl h ↦ inl (known g k.why d (subst (λ w. In d (D w)) same h)) | inr h ↦ inr h ] ];
              }

  lesser : (x c : ℕ) → rank x < rank c → (us : List ℕ) → list_all (λ u. nat_lt (rank u) (rank x)) us ≡ true → list_all (λ u. nat_lt (rank u) (rank c)) us ≡ true
  lesser x c lt [] e = refl
  lesser x c lt (u ∷ us) e = by_head (lt-ltb (rank u) (rank c) (let k = ltb-true (rank u) (rank x) (and_left (nat_lt (rank u) (rank x)) (list_all (λ u. nat_lt (rank u) (rank x)) us) e) in omega (arith, k, lt)))
      (lesser x c lt us (and_right (nat_lt (rank u) (rank x)) (list_all (λ u. nat_lt (rank u) (rank x)) us) e))
    where
      by_head : nat_lt (rank u) (rank c) ≡ true → list_all (λ u. nat_lt (rank u) (rank c)) us ≡ true → (nat_lt (rank u) (rank c) && list_all (λ u. nat_lt (rank u) (rank c)) us) ≡ true
      by_head f g = ap (λ b. b && list_all (λ u. nat_lt (rank u) (rank c)) us) f ∙ g

  module _ {X : Type 0} (gives : ℕ → List X) (start : List ℕ) (seen : List Bool) (rest : List ℕ) (x : ℕ) (out whole : List X) (g : Going gives start seen (x ∷ rest) out whole) (lt : x < length seen) (new : slice_index_or seen x false ≡ false) where
    here : D x ≡ x ∷ flat_map D (above x)
    here = step_up x (let z = g.size in omega (arith, lt, z))

    abbrev more : List ℕ
    more = flat_map D (above x ++ rest)

    waiting : flat_map D (x ∷ rest) ≡ x ∷ more
    waiting = ap (λ l. l ++ flat_map D rest) here ∙ ap (λ l. x ∷ l) (sym (flat_map-append D (above x) rest))

    abbrev marked : List Bool
    marked = slice_set seen x true

    unseen_here : unseen seen (x ∷ more) ≡ x ∷ unseen seen more
    unseen_here = ap (λ b. cond (not b) (x ∷ unseen seen more) (unseen seen more)) new

    once_here : flat_map gives (distinct (unseen seen (flat_map D (x ∷ rest)))) ≡ gives x ++ flat_map gives (distinct (unseen marked more))
    once_here =
        ap (λ l. flat_map gives (distinct (unseen seen l))) waiting
        ∙ ap (λ l. flat_map gives (distinct l)) unseen_here
        ∙ ap (λ l. gives x ++ flat_map gives l) (distinct_filter (λ d. not (nat_eq d x)) (unseen seen more) ∙ ap distinct (sym (unseen_set seen x more lt)))

    total_opened : (out ++ gives x) ++ flat_map gives (distinct (unseen marked more)) ≡ whole
    total_opened = append_assoc out (gives x) (flat_map gives (distinct (unseen marked more))) ∙ ap (λ l. out ++ l) (sym once_here) ∙ g.total

    above_itself : (d : ℕ) → In d (D x) → (slice_index_or marked d false ≡ true) ⊎ In d (flat_map D (above x))
    above_itself d i = by_first (subst (In d) here i)
      where
        by_first : In d (x ∷ flat_map D (above x)) → (slice_index_or marked d false ≡ true) ⊎ In d (flat_map D (above x))
        by_first (inl s) = inl (ap (λ w. slice_index_or marked w false) s ∙ is_seen_now seen x lt)
        by_first (inr j) = inr j

    front_opened : (c : ℕ) → Front seen (x ∷ rest) c → Front marked (above x ++ rest) c
    front_opened c f = by_front f.front f.split f.beneath f.covered
      where
        by_front : (front : List ℕ) → x ∷ rest ≡ front ++ f.back → list_all (λ u. nat_lt (rank u) (rank c)) front ≡ true → ((d : ℕ) → In d (D c) → (slice_index_or seen d false ≡ true) ⊎ In d (flat_map D front)) → Front marked (above x ++ rest) c
        by_front [] e a s = record { front = []; back = above x ++ rest; split = refl; beneath = refl; covered = λ d i. elim (s d i) [ inl h ↦ inl (stays_seen seen x d h) | inr j ↦ absurd j ] }
        by_front (z ∷ zs) e a s =
            let same : z ≡ x = cc in
            let tail : rest ≡ zs ++ f.back = cc in
            let l = ltb-true (rank z) (rank c) (and_left (nat_lt (rank z) (rank c)) (list_all (λ u. nat_lt (rank u) (rank c)) zs) a) in
            let eq : rank z ≡ rank x = ap rank same in
            record {
              front = above x ++ zs;
              back = f.back;
              split = ap (λ l. above x ++ l) tail ∙ sym (append_assoc (above x) zs f.back);
              beneath = all_join (λ u. nat_lt (rank u) (rank c)) (above x) zs (lesser x c (omega (arith, l, eq)) (above x) (lower x)) (and_right (nat_lt (rank z) (rank c)) (list_all (λ u. nat_lt (rank u) (rank c)) zs) a);
              covered = λ d i. elim (s d i) [
                | inl h ↦ inl (stays_seen seen x d h)
                | inr j ↦ elim (in_split d (D z) (flat_map D zs) j) [
                  | inl h ↦ elim (above_itself d (subst (λ w. In d (D w)) same h)) [
                    | inl q ↦ inl q
                    | inr q ↦ inr (subst (In d) (sym (flat_map-append D (above x) zs)) (in_left d (flat_map D (above x)) (flat_map D zs) q))
                  ]
                  | inr h ↦ inr (subst (In d) (sym (flat_map-append D (above x) zs)) (in_right d (flat_map D (above x)) (flat_map D zs) h))
                ]
              ];
            }

    pub opened : Going gives start marked (above x ++ rest) (out ++ gives x) whole
    opened = record {
      total = total_opened;
      fronts = λ c s. elim (marked_at seen x c s) [
        | inl same ↦ subst (Front marked (above x ++ rest)) (sym same) (record { front = above x; back = rest; split = refl; beneath = lower x; covered = above_itself })
        | inr old ↦ front_opened c (g.fronts c old)
      ];
      size = set_size seen x true ∙ g.size;
      from = λ c s. elim (marked_at seen x c s) [
        | inl same ↦ g.rest c (subst (In c) (sym waiting) (inl same))
        | inr old ↦ g.from c old
      ];
      all = λ c i. elim (g.all c i) [
        | inl s ↦ inl (stays_seen seen x c s)
        | inr j ↦ by_first c (subst (In c) waiting j)
      ];
      rest = λ c i. g.rest c (subst (In c) (sym waiting) (inr i));
    }
      where
        by_first : (c : ℕ) → In c (x ∷ more) → (slice_index_or marked c false ≡ true) ⊎ In c more
        by_first c (inl s) = inl (ap (λ w. slice_index_or marked w false) s ∙ is_seen_now seen x lt)
        by_first c (inr j) = inr j

  pub opens : {X : Type 0} (gives : ℕ → List X) (start : List ℕ) (seen seen' : List Bool) (stack rest stack' ups : List ℕ) (x : ℕ) (found r : Option ℕ) (out out' whole : List X) → stack ≡ x ∷ rest → ups ≡ above x → out' ≡ out ++ gives x
      → Opens seen rest x found ups seen' stack' r → Going gives start seen stack out whole → Going gives start seen' stack' out' whole
  opens gives start seen seen' stack rest stack' ups x found r out out' whole e up o k g =
      let g' : Going gives start seen (x ∷ rest) out whole = subst (λ l. Going gives start seen l out whole) e g in
      subst (λ l. Going gives start l stack' out' whole) (sym k.marked) (subst (λ l. Going gives start (slice_set seen x true) l out' whole) (sym (k.longer ∙ ap (λ l. l ++ rest) up))
      (subst (λ l. Going gives start (slice_set seen x true) (above x ++ rest) l whole) (sym o) (opened gives start seen rest x out whole g' k.short k.new)))
