-- A walk in depth leaves each class behind those above it, or comes round to one.
use Rattle.std.proofs.Common.{◌≡◌, ℕ, zero, suc, ◌+◌, ◌<◌, ◌⊎◌, inl, inr, Bool, true, false, true≢false, List, [], ◌∷◌, ◌++◌, map, length, Some, refl, sym, ap, subst, ◌∙◌, arith, length-append}
use Rattle.std.specs.Prelude.{slice_get, slice_index_or, slice_set}
use Rattle.class_defs.specs.ClassGraph.{StepsTo}
use Rattle.hierarchy.specs.declared.order.Climb.{Climb}
use Rattle.hierarchy.specs.declared.order.Task.{Task}
use Rattle.hierarchy.specs.declared.order.Task.TheVariants.{Come, Leave}
use Rattle.hierarchy.specs.Climbing.{In, IsUp, IsBefore, Opens, Comes, Leaves, Follows, todo}
use Rattle.hierarchy.proofs.Marks.{marked_at, set_size}
use Rattle.hierarchy.proofs.Deep.{weight, weight_set}
use Rattle.hierarchy.proofs.Placed.{got_left, got_last, got_middle}

-- ---- marks that are set past the end

pub stays_left : (l : List Bool) (x c : ℕ) → slice_index_or l c true ≡ true → slice_index_or (slice_set l x true) c true ≡ true
stays_left [] x c e = e
stays_left (b ∷ bs) zero zero e = refl
stays_left (b ∷ bs) zero (suc c) e = e
stays_left (b ∷ bs) (suc x) zero e = e
stays_left (b ∷ bs) (suc x) (suc c) e = stays_left bs x c e

pub is_left : (l : List Bool) (x : ℕ) → slice_index_or (slice_set l x true) x true ≡ true
is_left [] x = refl
is_left (b ∷ bs) zero = refl
is_left (b ∷ bs) (suc x) = is_left bs x

pub was_left : (l : List Bool) (x c : ℕ) → slice_index_or (slice_set l x true) c true ≡ true → (c ≡ x) ⊎ (slice_index_or l c true ≡ true)
was_left [] x c e = inr e
was_left (b ∷ bs) zero zero e = inl refl
was_left (b ∷ bs) zero (suc c) e = inr e
was_left (b ∷ bs) (suc x) zero e = inr e
was_left (b ∷ bs) (suc x) (suc c) e = elim (was_left bs x c e) [ inl s ↦ inl (ap suc s) | inr f ↦ inr f ]

pub unleft_short : (l : List Bool) (x : ℕ) → slice_index_or l x true ≡ false → x < length l
unleft_short [] x e = absurd (true≢false e)
unleft_short (b ∷ bs) zero e = omega arith
unleft_short (b ∷ bs) (suc x) e = let h = unleft_short bs x e in omega (arith, h)

pub unleft_off : (l : List Bool) (x : ℕ) → slice_index_or l x true ≡ false → slice_index_or l x false ≡ false
unleft_off [] x e = refl
unleft_off (b ∷ bs) zero e = e
unleft_off (b ∷ bs) (suc x) e = unleft_off bs x e

pub weight_none : (deg : ℕ → ℕ) (at : ℕ) (l : List Bool) → ((c : ℕ) → c < length l → slice_index_or l c true ≡ true) → weight deg at l ≡ 0
weight_none deg at [] h = refl
weight_none deg at (true ∷ bs) h = weight_none deg (suc at) bs (λ c l. h (suc c) (omega (arith, l)))
weight_none deg at (false ∷ bs) h = absurd (true≢false (sym (h 0 (omega arith))))

weight_all : (at n : ℕ) (l : List Bool) → ((c : ℕ) → c < length l → slice_index_or l c true ≡ false) → weight (λ _. 1) at l ≡ length l
weight_all at n [] h = refl
weight_all at n (true ∷ bs) h = absurd (true≢false (h 0 (omega arith)))
weight_all at n (false ∷ bs) h = let r = weight_all (suc at) n bs (λ c l. h (suc c) (omega (arith, l))) in omega (arith, r)

-- ---- steps

pub steps_more : (Is : ℕ → ℕ → Type 0) (c d u : ℕ) (mids : List ℕ) → StepsTo Is c mids d → Is d u → StepsTo Is c (mids ++ d ∷ []) u
steps_more Is c d u [] s i = (s, i)
steps_more Is c d u (m ∷ ms) s i = (s.0, steps_more Is m d u ms s.1 i)

pub record Leads (up : ℕ → List ℕ) (n c u : ℕ) : Type 0 where
  pub mids : List ℕ
  pub steps : StepsTo (IsUp up n) c mids u

pub before_more : (order : List ℕ) (x i u : ℕ) → IsBefore order i u → IsBefore (order ++ x ∷ []) i u
before_more order x i u b = record { at = b.at; before = b.before; is = got_left order (x ∷ []) b.at u b.is }

-- ---- what the walk keeps

module _ (up : ℕ → List ℕ) (n : ℕ) where
  -- a class stands above the one that is left next
  abbrev pub From : List Task → ℕ → Type 0
  From [] u = Unit {0}
  From (Come c ∷ ts) u = From ts u
  From (Leave c ∷ ts) u = In u (up c)

  abbrev pub Fine : List Task → Type 0
  Fine [] = Unit {0}
  Fine (Come c ∷ ts) = From ts c × Fine ts
  Fine (Leave c ∷ ts) = (c < n) × (From ts c × Fine ts)

  abbrev pub HasLeave : ℕ → List Task → Type 0
  HasLeave c [] = ⊥
  HasLeave c (Come d ∷ ts) = HasLeave c ts
  HasLeave c (Leave d ∷ ts) = (c ≡ d) ⊎ HasLeave c ts

  abbrev pub Settled : List Bool → List ℕ → ℕ → Type 0
  Settled left front u = (slice_index_or left u true ≡ true) ⊎ In u front

  -- those above a class that is to be left are left, or done before it; so are the first classes, at the end
  abbrev pub Covers : ℕ → List Bool → List ℕ → List Task → Type 0
  Covers m left front [] = (c : ℕ) → c < m → Settled left front c
  Covers m left front (Come u ∷ ts) = Covers m left (u ∷ front) ts
  Covers m left front (Leave c ∷ ts) = ((u : ℕ) → In u (up c) → Settled left front u) × Covers m left (c ∷ front) ts

  pub record Going (m : ℕ) (seen left : List Bool) (order : List ℕ) (ts : List Task) : Type 0 where
    pub fine : Fine ts
    pub covers : Covers m left [] ts
    pub opened : (d : ℕ) → slice_index_or seen d false ≡ true → (slice_index_or left d true ≡ true) ⊎ HasLeave d ts
    pub listed : (d : ℕ) → d < n → slice_index_or left d true ≡ true → IsBefore order (length order) d
    pub marked : (i d : ℕ) → slice_get order i ≡ Some d → (d < n) × (slice_index_or left d true ≡ true)
    pub once : (i j d : ℕ) → slice_get order i ≡ Some d → slice_get order j ≡ Some d → i ≡ j
    pub behind : (i d u : ℕ) → slice_get order i ≡ Some d → In u (up d) → u < n → IsBefore order i u
    pub count : weight (λ _. 1) 0 left + length order ≡ n
    pub seen_size : length seen ≡ n
    pub left_size : length left ≡ n

  -- ---- a path from a class that is to be left

  leads : (ts : List Task) (c u : ℕ) → Fine ts → From ts u → HasLeave c ts → u < n → Leads up n c u
  leads [] c u f g h l = absurd h
  leads (Come d ∷ ts) c u f g h l = leads ts c u f.1 g h l
  leads (Leave d ∷ ts) c u f g (inl s) l = record { mids = []; steps = record { there = subst (λ e. In u (up e)) (sym s) g; short = l } }
  leads (Leave d ∷ ts) c u f g (inr h) l =
      let more = leads ts c d f.1.1 f.1.0 h f.0 in
      record { mids = more.mids ++ d ∷ []; steps = steps_more (IsUp up n) c d u more.mids more.steps (record { there = g; short = l }) }

  -- ---- what is covered

  settled_more : (left left' : List Bool) (front front' : List ℕ) (x : ℕ) → ((u : ℕ) → Settled left front u → Settled left' front' u) → (u : ℕ) → Settled left (x ∷ front) u → Settled left' (x ∷ front') u
  settled_more left left' front front' x h u (inl e) = elim (h u (inl e)) [ inl f ↦ inl f | inr i ↦ inr (inr i) ]
  settled_more left left' front front' x h u (inr (inl s)) = inr (inl s)
  settled_more left left' front front' x h u (inr (inr i)) = elim (h u (inr i)) [ inl f ↦ inl f | inr j ↦ inr (inr j) ]

  first_more : (m m' : ℕ) (left : List Bool) (front : List ℕ) (x : ℕ) → ((c : ℕ) → c < m' → (c < m) ⊎ Settled left front c) → (c : ℕ) → c < m' → (c < m) ⊎ Settled left (x ∷ front) c
  first_more m m' left front x k c l = elim (k c l) [
    | inl s ↦ inl s
    | inr t ↦ inr (elim t as (λ _. Settled left (x ∷ front) c) [ inl f ↦ inl f | inr i ↦ inr (inr i) ])
  ]

  covers_on : (m m' : ℕ) (left left' : List Bool) (front front' : List ℕ) (ts : List Task) → ((u : ℕ) → Settled left front u → Settled left' front' u) → ((c : ℕ) → c < m' → (c < m) ⊎ Settled left' front' c) → Covers m left front ts → Covers m' left' front' ts
  covers_on m m' left left' front front' [] h k s = λ c l. elim (k c l) [ inl b ↦ h c (s c b) | inr t ↦ t ]
  covers_on m m' left left' front front' (Come u ∷ ts) h k s = covers_on m m' left left' (u ∷ front) (u ∷ front') ts (settled_more left left' front front' u h) (first_more m m' left' front' u k) s
  covers_on m m' left left' front front' (Leave c ∷ ts) h k s =
      (λ u i. h u (s.0 u i), covers_on m m' left left' (c ∷ front) (c ∷ front') ts (settled_more left left' front front' c h) (first_more m m' left' front' c k) s.1)

  -- ---- a class more to come to at the beginning

  pub begins : (seen left : List Bool) → length seen ≡ n → length left ≡ n → ((d : ℕ) → slice_index_or seen d false ≡ false) → ((d : ℕ) → d < n → slice_index_or left d true ≡ false) → Going 0 seen left [] []
  begins seen left s l none more = record {
    fine = tt;
    covers = λ c k. absurd (omega (arith, k));
    opened = λ d e. absurd (true≢false (sym e ∙ none d));
    listed = λ d k e. absurd (true≢false (sym e ∙ more d k));
    marked = λ i d e. cc;
    once = λ i j d e f. cc;
    behind = λ i d u e k b. cc;
    count = (let w : weight (λ _. 1) 0 left ≡ length left = weight_all 0 n left (λ c k. more c (omega (arith, k, l))) in omega (arith, w, l));
    seen_size = s;
    left_size = l;
  }

  pub pushes : (m : ℕ) (seen left : List Bool) (order : List ℕ) (ts : List Task) → ((u : ℕ) → From ts u) → Going m seen left order ts → Going (m + 1) seen left order (Come m ∷ ts)
  pushes m seen left order ts free g = record {
    fine = (free m, g.fine);
    covers = covers_on m (m + 1) left left [] (m ∷ []) ts (λ u s. elim s as (λ _. Settled left (m ∷ []) u) [ inl e ↦ inl e | inr i ↦ absurd i ]) (λ c l. last c l) g.covers;
    opened = g.opened;
    listed = g.listed;
    marked = g.marked;
    once = g.once;
    behind = g.behind;
    count = g.count;
    seen_size = g.seen_size;
    left_size = g.left_size;
  }
    where
      split : (a b : ℕ) → a < b + 1 → (a < b) ⊎ (a ≡ b)
      split zero zero l = inr refl
      split zero (suc b) l = inl (omega arith)
      split (suc a) zero l = absurd (omega (arith, l))
      split (suc a) (suc b) l = elim (split a b (omega (arith, l))) [ inl k ↦ inl (omega (arith, k)) | inr e ↦ inr (ap suc e) ]

      last : (c : ℕ) → c < m + 1 → (c < m) ⊎ Settled left (m ∷ []) c
      last c l = elim (split c m l) [ inl k ↦ inl k | inr e ↦ inr (inr (inl e)) ]

  -- ---- a task that has nothing to do

  dropped : (left : List Bool) (x : ℕ) → slice_index_or left x true ≡ true → (u : ℕ) → Settled left (x ∷ []) u → Settled left [] u
  dropped left x e u (inl f) = inl f
  dropped left x e u (inr (inl s)) = inl (ap (λ c. slice_index_or left c true) s ∙ e)
  dropped left x e u (inr (inr i)) = absurd i

  pub passes_come : (m : ℕ) (seen left : List Bool) (order : List ℕ) (x : ℕ) (ts : List Task) → slice_index_or left x true ≡ true → Going m seen left order (Come x ∷ ts) → Going m seen left order ts
  passes_come m seen left order x ts e g = record {
    fine = g.fine.1;
    covers = covers_on m m left left (x ∷ []) [] ts (dropped left x e) (λ c l. inl l) g.covers;
    opened = g.opened;
    listed = g.listed;
    marked = g.marked;
    once = g.once;
    behind = g.behind;
    count = g.count;
    seen_size = g.seen_size;
    left_size = g.left_size;
  }

  pub passes_leave : (m : ℕ) (seen left : List Bool) (order : List ℕ) (x : ℕ) (ts : List Task) → slice_index_or left x true ≡ true → Going m seen left order (Leave x ∷ ts) → Going m seen left order ts
  passes_leave m seen left order x ts e g = record {
    fine = g.fine.1.1;
    covers = covers_on m m left left (x ∷ []) [] ts (dropped left x e) (λ c l. inl l) g.covers.1;
    opened = λ d f. without d (g.opened d f);
    listed = g.listed;
    marked = g.marked;
    once = g.once;
    behind = g.behind;
    count = g.count;
    seen_size = g.seen_size;
    left_size = g.left_size;
  }
    where
      without : (d : ℕ) → (slice_index_or left d true ≡ true) ⊎ HasLeave d (Leave x ∷ ts) → (slice_index_or left d true ≡ true) ⊎ HasLeave d ts
      without d (inl f) = inl f
      without d (inr (inl s)) = inl (ap (λ c. slice_index_or left c true) s ∙ e)
      without d (inr (inr h)) = inr h

  -- ---- a class that is come to

  from_above : (us : List ℕ) (x u : ℕ) (ts : List Task) → In u (up x) → From (map (λ c. Come c) us ++ Leave x ∷ ts) u
  from_above [] x u ts i = i
  from_above (v ∷ us) x u ts i = from_above us x u ts i

  fine_above : (us : List ℕ) (x : ℕ) (ts : List Task) → ((u : ℕ) → In u us → In u (up x)) → Fine (Leave x ∷ ts) → Fine (map (λ c. Come c) us ++ Leave x ∷ ts)
  fine_above [] x ts h f = f
  fine_above (v ∷ us) x ts h f = (from_above us x v ts (h v (inl refl)), fine_above us x ts (λ u i. h u (inr i)) f)

  covers_above : (m : ℕ) (left : List Bool) (us front : List ℕ) (x : ℕ) (ts : List Task) → ((u : ℕ) → In u (up x) → In u us ⊎ In u front) → Covers m left (x ∷ []) ts → Covers m left front (map (λ c. Come c) us ++ Leave x ∷ ts)
  covers_above m left [] front x ts h s = (
    λ u i. elim (h u i) [ inl j ↦ absurd j | inr j ↦ inr j ],
    covers_on m m left left (x ∷ []) (x ∷ front) ts (λ u t. elim t as (λ _. Settled left (x ∷ front) u) [ inl e ↦ inl e | inr i ↦ inr (elim i as (λ _. In u (x ∷ front)) [ inl q ↦ inl q | inr a ↦ absurd a ]) ]) (λ c l. inl l) s,
  )
  covers_above m left (v ∷ us) front x ts h s = covers_above m left us (v ∷ front) x ts (λ u i. moved u (h u i)) s
    where
      moved : (u : ℕ) → In u (v ∷ us) ⊎ In u front → In u us ⊎ In u (v ∷ front)
      moved u (inl (inl q)) = inr (inl q)
      moved u (inl (inr i)) = inl i
      moved u (inr i) = inr (inr i)

  leave_above : (us : List ℕ) (x d : ℕ) (ts : List Task) → HasLeave d (Leave x ∷ ts) → HasLeave d (map (λ c. Come c) us ++ Leave x ∷ ts)
  leave_above [] x d ts h = h
  leave_above (v ∷ us) x d ts h = leave_above us x d ts h

  pub opens : (m : ℕ) (seen left : List Bool) (order : List ℕ) (x : ℕ) (ts : List Task) → slice_index_or left x true ≡ false → Going m seen left order (Come x ∷ ts) → Going m (slice_set seen x true) left order (map (λ c. Come c) (up x) ++ Leave x ∷ ts)
  opens m seen left order x ts e g = record {
    fine = fine_above (up x) x ts (λ u i. i) ((let l = unleft_short left x e in let z = g.left_size in omega (arith, l, z)), (g.fine.0, g.fine.1));
    covers = covers_above m left (up x) [] x ts (λ u i. inl i) g.covers;
    opened = λ d f. elim (marked_at seen x d f) [
      | inl s ↦ inr (leave_above (up x) x d ts (inl s))
      | inr k ↦ by_old d (g.opened d k)
    ];
    listed = g.listed;
    marked = g.marked;
    once = g.once;
    behind = g.behind;
    count = g.count;
    seen_size = set_size seen x true ∙ g.seen_size;
    left_size = g.left_size;
  }
    where
      by_old : (d : ℕ) → (slice_index_or left d true ≡ true) ⊎ HasLeave d ts → (slice_index_or left d true ≡ true) ⊎ HasLeave d (map (λ c. Come c) (up x) ++ Leave x ∷ ts)
      by_old d (inl f) = inl f
      by_old d (inr h) = inr (leave_above (up x) x d ts (inr h))

  -- ---- a class that is left

  pub closes : (m : ℕ) (seen left : List Bool) (order : List ℕ) (x : ℕ) (ts : List Task) → slice_index_or left x true ≡ false → Going m seen left order (Leave x ∷ ts) → Going m seen (slice_set left x true) (order ++ x ∷ []) ts
  closes m seen left order x ts e g = record {
    fine = g.fine.1.1;
    covers = covers_on m m left (slice_set left x true) (x ∷ []) [] ts settles (λ c l. inl l) g.covers.1;
    opened = λ d f. by_old d (g.opened d f);
    listed = λ d l f. elim (was_left left x d f) [
      | inl s ↦ record { at = length order; before = longer; is = got_middle order x [] ∙ ap (λ c. Some c) (sym s) }
      | inr k ↦ (let b = g.listed d l k in let s = b.before in record { at = b.at; before = omega (arith, s, longer); is = got_left order (x ∷ []) b.at d b.is })
    ];
    marked = λ i d f. elim (got_last order x d i f) [
      | inl k ↦ (let q = g.marked i d k in (q.0, stays_left left x d q.1))
      | inr k ↦ (subst (λ c. c < n) (sym k.1) short, ap (λ c. slice_index_or (slice_set left x true) c true) k.1 ∙ is_left left x)
    ];
    once = λ i j d f h. one_place i j d (got_last order x d i f) (got_last order x d j h);
    behind = λ i d u f k l. by_place i d u k l (got_last order x d i f);
    count = (
        let w : weight (λ _. 1) 0 (slice_set left x true) + 1 ≡ weight (λ _. 1) 0 left = weight_set (λ _. 1) 0 x left (unleft_short left x e) (unleft_off left x e) in
        let z = g.count in
        let l = length-append order (x ∷ []) in
        omega (arith, w, z, l)
        );
    seen_size = g.seen_size;
    left_size = set_size left x true ∙ g.left_size;
  }
    where
      short : x < n
      short = let l = unleft_short left x e in let z = g.left_size in omega (arith, l, z)

      longer : length order < length (order ++ x ∷ [])
      longer = let l = length-append order (x ∷ []) in omega (arith, l)

      settles : (u : ℕ) → Settled left (x ∷ []) u → Settled (slice_set left x true) [] u
      settles u (inl f) = inl (stays_left left x u f)
      settles u (inr (inl s)) = inl (ap (λ c. slice_index_or (slice_set left x true) c true) s ∙ is_left left x)
      settles u (inr (inr i)) = absurd i

      by_old : (d : ℕ) → (slice_index_or left d true ≡ true) ⊎ HasLeave d (Leave x ∷ ts) → (slice_index_or (slice_set left x true) d true ≡ true) ⊎ HasLeave d ts
      by_old d (inl f) = inl (stays_left left x d f)
      by_old d (inr (inl s)) = inl (ap (λ c. slice_index_or (slice_set left x true) c true) s ∙ is_left left x)
      by_old d (inr (inr h)) = inr h

      not_yet : (i d : ℕ) → slice_get order i ≡ Some d → d ≡ x → ⊥
      not_yet i d f s = true≢false (sym (g.marked i d f).1 ∙ ap (λ c. slice_index_or left c true) s ∙ e)

      one_place : (i j d : ℕ) → (slice_get order i ≡ Some d) ⊎ ((i ≡ length order) × (d ≡ x)) → (slice_get order j ≡ Some d) ⊎ ((j ≡ length order) × (d ≡ x)) → i ≡ j
      one_place i j d (inl f) (inl h) = g.once i j d f h
      one_place i j d (inl f) (inr h) = absurd (not_yet i d f h.1)
      one_place i j d (inr f) (inl h) = absurd (not_yet j d h f.1)
      one_place i j d (inr f) (inr h) = f.0 ∙ sym h.0

      is_done : (u : ℕ) → Settled left [] u → slice_index_or left u true ≡ true
      is_done u (inl f) = f
      is_done u (inr i) = absurd i

      by_place : (i d u : ℕ) → In u (up d) → u < n → (slice_get order i ≡ Some d) ⊎ ((i ≡ length order) × (d ≡ x)) → IsBefore (order ++ x ∷ []) i u
      by_place i d u k l (inl f) = before_more order x i u (g.behind i d u f k l)
      by_place i d u k l (inr f) = subst (λ j. IsBefore (order ++ x ∷ []) j u) (sym f.0)
          (before_more order x (length order) u (g.listed u l (is_done u (g.covers.0 u (subst (λ c. In u (up c)) f.1 k)))))

  -- ---- the end

  pub comes_round : (m : ℕ) (seen left : List Bool) (order : List ℕ) (x : ℕ) (ts : List Task) → slice_index_or left x true ≡ false → slice_index_or seen x false ≡ true → Going m seen left order (Come x ∷ ts) → Leads up n x x
  comes_round m seen left order x ts e s g = by_open (g.opened x s)
    where
      by_open : (slice_index_or left x true ≡ true) ⊎ HasLeave x (Come x ∷ ts) → Leads up n x x
      by_open (inl f) = absurd (true≢false (sym f ∙ e))
      by_open (inr h) = leads ts x x g.fine.1 g.fine.0 h (let l = unleft_short left x e in let z = g.left_size in omega (arith, l, z))

  pub all_left : (seen left : List Bool) (order : List ℕ) → Going n seen left order [] → (c : ℕ) → c < n → slice_index_or left c true ≡ true
  all_left seen left order g c l = elim (g.covers c l) as (λ _. slice_index_or left c true ≡ true) [ inl f ↦ f | inr i ↦ absurd i ]

  pub whole : (seen left : List Bool) (order : List ℕ) → Going n seen left order [] → length order ≡ n
  whole seen left order g =
      let w : weight (λ _. 1) 0 left ≡ 0 = weight_none (λ _. 1) 0 left (λ c l. all_left seen left order g c (let z = g.left_size in omega (arith, l, z))) in
      let z = g.count in
      omega (arith, w, z)

  -- ---- a task that is done

  abbrev pub Walks : ℕ → Climb → List Task → Type 0
  Walks m c ts = Going m c.seen.items c.left.items c.order.items ts

  same_walk : (m : ℕ) (old new : Climb) (ts ts' : List Task) → new.seen.items ≡ old.seen.items → new.left.items ≡ old.left.items → new.order.items ≡ old.order.items → ts' ≡ ts → Walks m old ts → Walks m new ts'
  same_walk m old new ts ts' s l o t g =
      subst (λ v. Going m v new.left.items new.order.items ts') (sym s) (subst (λ v. Going m old.seen.items v new.order.items ts') (sym l) (subst (λ v. Going m old.seen.items old.left.items v ts') (sym o)
      (subst (λ v. Going m old.seen.items old.left.items old.order.items v) (sym t) g)))

  come_on : (m : ℕ) (old new : Climb) (class : ℕ) (on : Bool) → on ≡ true → Comes old class (up class) new on → Walks m old (Come class ∷ todo old) → Walks m new (todo new)
  come_on m old new class false e f g = absurd (true≢false (sym e))
  come_on m old new class true e (inl f) g = same_walk m old new (todo old) (todo new) f.same_seen f.same_left f.same_order f.same_todo (passes_come m old.seen.items old.left.items old.order.items class (todo old) f.done g)
  come_on m old new class true e (inr f) g =
      subst (λ v. Going m v new.left.items new.order.items (todo new)) (sym f.marked) (subst (λ v. Going m (slice_set old.seen.items class true) v new.order.items (todo new)) (sym f.same_left)
      (subst (λ v. Going m (slice_set old.seen.items class true) old.left.items v (todo new)) (sym f.same_order) (subst (λ v. Going m (slice_set old.seen.items class true) old.left.items old.order.items v) (sym f.longer)
      (opens m old.seen.items old.left.items old.order.items class (todo old) f.fresh g))))

  leave_on : (m : ℕ) (old new : Climb) (class : ℕ) → Leaves old class new → Walks m old (Leave class ∷ todo old) → Walks m new (todo new)
  leave_on m old new class (inl f) g = same_walk m old new (todo old) (todo new) f.same_seen f.same_left f.same_order f.same_todo (passes_leave m old.seen.items old.left.items old.order.items class (todo old) f.done g)
  leave_on m old new class (inr f) g =
      subst (λ v. Going m v new.left.items new.order.items (todo new)) (sym f.same_seen) (subst (λ v. Going m old.seen.items v new.order.items (todo new)) (sym f.marked)
      (subst (λ v. Going m old.seen.items (slice_set old.left.items class true) v (todo new)) (sym f.longer) (subst (λ v. Going m old.seen.items (slice_set old.left.items class true) (old.order.items ++ class ∷ []) v) (sym f.same_todo)
      (closes m old.seen.items old.left.items old.order.items class (todo old) f.fresh g))))

  pub follow_on : (m : ℕ) (old new : Climb) (task : Task) (on : Bool) → on ≡ true → Follows up old task new on → Walks m old (task ∷ todo old) → Walks m new (todo new)
  follow_on m old new (Come class) on e f g = come_on m old new class on e f g
  follow_on m old new (Leave class) true e f g = leave_on m old new class f g
  follow_on m old new (Leave class) false e f g = absurd f

  pub follow_round : (m : ℕ) (old new : Climb) (task : Task) (on : Bool) → on ≡ false → Follows up old task new on → Walks m old (task ∷ todo old) → (class : ℕ) × (class < n) × Leads up n class class
  follow_round m old new (Come class) true e f g = absurd (true≢false e)
  follow_round m old new (Come class) false e f g = (
    class,
    (let l = unleft_short old.left.items class f.fresh in let z = g.left_size in omega (arith, l, z)),
    comes_round m old.seen.items old.left.items old.order.items class (todo old) f.fresh f.seen g,
  )
  follow_round m old new (Leave class) true e f g = absurd (true≢false e)
  follow_round m old new (Leave class) false e f g = absurd f

-- ---- each task is one of so many

abbrev pub cost : (ℕ → List ℕ) → ℕ → ℕ
cost up c = suc (length (up c))

passed : (up : ℕ → List ℕ) (old new : Climb) → new.seen.items ≡ old.seen.items → todo new ≡ todo old → weight (cost up) 0 new.seen.items + length (todo new) < weight (cost up) 0 old.seen.items + suc (length (todo old))
passed up old new s t =
    let w : weight (cost up) 0 new.seen.items ≡ weight (cost up) 0 old.seen.items = ap (weight (cost up) 0) s in
    let l : length (todo new) ≡ length (todo old) = ap length t in
    omega (arith, w, l)

come_length : (us : List ℕ) (x : ℕ) (ts : List Task) → length (map (λ c. Come c) us ++ Leave x ∷ ts) ≡ length us + suc (length ts)
come_length [] x ts = omega arith
come_length (u ∷ us) x ts = let h = come_length us x ts in omega (arith, h)

opened_fewer : (up : ℕ → List ℕ) (old new : Climb) (class : ℕ) → length old.seen.items ≡ length old.left.items → Opens old class (up class) new
    → weight (cost up) 0 new.seen.items + length (todo new) < weight (cost up) 0 old.seen.items + suc (length (todo old))
opened_fewer up old new class same f =
    let w : weight (cost up) 0 new.seen.items ≡ weight (cost up) 0 (slice_set old.seen.items class true) = ap (weight (cost up) 0) f.marked in
    let short = unleft_short old.left.items class f.fresh in
    let v : weight (cost up) 0 (slice_set old.seen.items class true) + suc (length (up (0 + class))) ≡ weight (cost up) 0 old.seen.items = weight_set (cost up) 0 class old.seen.items (omega (arith, short, same)) f.unseen in
    let z : length (up (0 + class)) ≡ length (up class) = ap (λ c. length (up c)) (omega arith) in
    let l : length (todo new) ≡ length (up class) + suc (length (todo old)) = ap length f.longer ∙ come_length (up class) class (todo old) in
    omega (arith, w, v, z, l)

pub fewer_tasks : (up : ℕ → List ℕ) (old new : Climb) (task : Task) (on : Bool) → on ≡ true → length old.seen.items ≡ length old.left.items → Follows up old task new on
    → weight (cost up) 0 new.seen.items + length (todo new) < weight (cost up) 0 old.seen.items + suc (length (todo old))
fewer_tasks up old new (Come class) false e same f = absurd (true≢false (sym e))
fewer_tasks up old new (Come class) true e same (inl f) = passed up old new f.same_seen f.same_todo
fewer_tasks up old new (Come class) true e same (inr f) = opened_fewer up old new class same f
fewer_tasks up old new (Leave class) false e same f = absurd f
fewer_tasks up old new (Leave class) true e same (inl f) = passed up old new f.same_seen f.same_todo
fewer_tasks up old new (Leave class) true e same (inr f) = passed up old new f.same_seen f.same_todo

pub same_sizes : (up : ℕ → List ℕ) (old new : Climb) (task : Task) (on : Bool) → on ≡ true → length old.seen.items ≡ length old.left.items → Follows up old task new on → length new.seen.items ≡ length new.left.items
same_sizes up old new (Come class) false e same f = absurd (true≢false (sym e))
same_sizes up old new (Come class) true e same (inl f) = ap length f.same_seen ∙ same ∙ sym (ap length f.same_left)
same_sizes up old new (Come class) true e same (inr f) = ap length f.marked ∙ set_size old.seen.items class true ∙ same ∙ sym (ap length f.same_left)
same_sizes up old new (Leave class) false e same f = absurd f
same_sizes up old new (Leave class) true e same (inl f) = ap length f.same_seen ∙ same ∙ sym (ap length f.same_left)
same_sizes up old new (Leave class) true e same (inr f) = ap length f.same_seen ∙ same ∙ sym (set_size old.left.items class true) ∙ sym (ap length f.marked)
