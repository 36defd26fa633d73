-- The handlers of each region stand where its try item says.
use Rattle.std.proofs.Common.{◌≡◌, ◌<◌, ◌≤◌, ◌+◌, ◌-◌, ◌^◌, ◌⊎◌, inl, inr, ℕ, zero, suc, ℤ, pos, Bool, true, false, List, [], ◌∷◌, ◌++◌, length, map, Option, Some, None, refl, sym, ap, subst, ◌∙◌, arith, append_assoc, length-append}
use Rattle.std.specs.Prelude.{FitsSigned, slice_get, is_some, nat_lt, nat_eq, not, ◌||◌, if◌then◌else◌}
use Rattle.std.specs.Int.{w32}
use Rattle.std.specs.List.{AllByRecursion, flat_map, concat, list_any}
use Rattle.std.specs.Option.{option_map}
use Rattle.std.specs.Cmp.Lexicographic.{bytes_decides}
use Rattle.std.proofs.lemmas.Bool.{lt-ltb, le-ltb}
use Rattle.lemmas.proofs.Bools.{clash, or_cases}
use Rattle.dex_base.specs.Decides.{ChainOf}
use Rattle.dex_base.specs.Leb.{IsUlebAt, IsSlebAt, uleb_text, sleb_text}
use Rattle.dex_base.proofs.Written.{sleb_spelled}
use Rattle.line_tables.specs.Item.{count_below}
use Rattle.relax.specs.Sizes.{start}
use Rattle.relax.proofs.Starts.{start_mono}
use Rattle.program_model.specs.declared.body.Handler.{Handler}
use Rattle.program_model.specs.declared.body.Region.{Region}
use Rattle.program_model.specs.RegionRules.{catches}
use Rattle.dex_defs.specs.Here.{Here}
use Rattle.dex_defs.specs.Sweep.{Places}
use Rattle.dex_defs.specs.Handlers.{Try, Catches, IsPair, IsRestAt, magnitude, AreCatches, AreCatchesAt, first_position, end_position, covers, covering, AreHandlers, IsRest, IsRegion, AreRegions}
use Rattle.dex_defs.specs.LaysOut as kept
use Rattle.dex_defs.specs.LaysOut.{minus, size_text, handler_text, rest_text, catches_text, is_same, distinct, by_length, written_lists, begins_from, IsNear}
use Rattle.dex_defs.specs.CodeTexts.{covered, place_of, lists_text, list_offset}
use Rattle.write_laws.proofs.Here.{here_left, here_right, here_is, here_same, here_uleb}
use Rattle.written_code.proofs.Least.{AllSome, start_less}

-- ---- one list

pub here_sleb : (bytes : List ℕ) (at : ℕ) (z : ℤ) → FitsSigned w32 z → Here bytes at (sleb_text z) → IsSlebAt bytes at (z, at + length (sleb_text z))
here_sleb bytes at z f h = record {
  text = sleb_text z;
  stands = record { is = (sleb_spelled z f).is; inside = h.inside; here = h.is };
  value = (sleb_spelled z f).value;
  behind = refl;
}

-- a region with so many positions and types
pub record FitRegion (sizes : List ℕ) (types : ℕ) (r : Region) : Type 0 where
  pub some : r.first < r.end
  pub inside : r.end ≤ length sizes
  pub catches_some : catches r ≡ true
  pub handlers : AllByRecursion (λ h. (h.kind < types) × (h.position < length sizes)) r.handlers
  pub few : length r.handlers < 2 ^ 31
  pub rest : (position : ℕ) → r.rest ≡ Some position → position < length sizes
  pub near : IsNear sizes r

abbrev pub catches_of : List ℕ → Region → Catches
catches_of sizes r = record { pairs = map (λ h. (h.kind, start sizes h.position)) r.handlers; rest = option_map (λ p. start sizes p) r.rest }

start_few : (sizes : List ℕ) (k : ℕ) → k ≤ length sizes → start sizes (length sizes) < 2 ^ 31 → start sizes k < 2 ^ 31
start_few sizes k le low = omega (arith, low, start_mono sizes k (length sizes) le)

pairs_stand : (bytes sizes : List ℕ) (types at : ℕ) (hs : List Handler) → types ≤ 65536 → start sizes (length sizes) < 2 ^ 31 → AllByRecursion (λ h. (h.kind < types) × (h.position < length sizes)) hs → Here bytes at (flat_map (handler_text sizes) hs)
    → ChainOf (IsPair bytes) at (map (λ h. (h.kind, start sizes h.position)) hs) (at + length (flat_map (handler_text sizes) hs))
pairs_stand bytes sizes types at [] few low a here = let e : at + 0 ≡ at = omega arith in e
pairs_stand bytes sizes types at (h ∷ hs) few low a here =
    let kind : List ℕ = uleb_text h.kind in
    let unit : List ℕ = uleb_text (start sizes h.position) in
    let rest : List ℕ = flat_map (handler_text sizes) hs in
    let one : Here bytes at (kind ++ unit) = here_left bytes at (kind ++ unit) rest here in
    let mid : ℕ = at + length kind in
    let next : ℕ = mid + length unit in
    let on : at + length (kind ++ unit) ≡ next = omega (arith, length-append kind unit) in
    let more = pairs_stand bytes sizes types next hs few low a.1 (here_is bytes (at + length (kind ++ unit)) next rest on (here_right bytes at (kind ++ unit) rest here)) in
    let end : next + length rest ≡ at + length ((kind ++ unit) ++ rest) = omega (arith, on, length-append (kind ++ unit) rest) in
    (next, record { mid = mid; kind = here_uleb bytes at h.kind (omega (arith, a.0.0, few)) (here_left bytes at kind unit one); unit = here_uleb bytes mid (start sizes h.position) (omega (arith, start_few sizes h.position (omega (arith, a.0.1)) low)) (here_right bytes at kind unit one) }, subst (λ k. ChainOf (IsPair bytes) next (map (λ h. (h.kind, start sizes h.position)) hs) k) end more)

map_size : {X Y : Type 0} (f : X → Y) (xs : List X) → length (map f xs) ≡ length xs
map_size f [] = refl
map_size f (x ∷ xs) = ap suc (map_size f xs)

pub catches_stand : (bytes sizes : List ℕ) (types at : ℕ) (r : Region) → types ≤ 65536 → start sizes (length sizes) < 2 ^ 31 → FitRegion sizes types r → Here bytes at (catches_text sizes r) → (stop : ℕ) × AreCatches bytes at (catches_of sizes r, stop) × (stop ≡ at + length (catches_text sizes r))
catches_stand bytes sizes types at r few low fit here = by_rest r.rest refl
  where
    hs : List ℕ
    hs = flat_map (handler_text sizes) r.handlers

    front : List ℕ
    front = size_text r

    back : List ℕ
    back = rest_text sizes r.rest

    both : Here bytes at (front ++ hs)
    both = here_left bytes at (front ++ hs) back here

    behind : Here bytes (at + length (front ++ hs)) back
    behind = here_right bytes at (front ++ hs) back here

    begin : ℕ
    begin = at + length front

    mid : ℕ
    mid = begin + length hs

    same : at + length (front ++ hs) ≡ mid
    same = omega (arith, length-append front hs)

    pairs : ChainOf (IsPair bytes) begin (catches_of sizes r).pairs mid
    pairs = pairs_stand bytes sizes types begin r.handlers few low fit.handlers (here_right bytes at front hs both)

    long : length (catches_text sizes r) ≡ length (front ++ hs) + length back
    long = length-append (front ++ hs) back

    none_of : (handlers : List Handler) → r.handlers ≡ handlers → r.rest ≡ None → (bytes_at : IsSlebAt bytes at (pos (length handlers), begin)) → (stop : ℕ) × AreCatches bytes at (catches_of sizes r, stop) × (stop ≡ at + length (catches_text sizes r))
    none_of [] e n s = clash (catches r) fit.catches_some (ap (λ (x : List Handler). not (nat_eq (length x) 0) || is_some r.rest) e ∙ ap (λ (o : Option ℕ). is_some o) n)
    none_of (h ∷ rest) e n s = (
      mid,
      record {
        size = pos (suc (length rest));
        begin = begin;
        mid = mid;
        is_size = s;
        many = map_size (λ h. (h.kind, start sizes h.position)) r.handlers ∙ ap (λ (x : List Handler). length x) e;
        pairs = pairs;
        rest = (ap (λ (o : Option ℕ). option_map (λ p. start sizes p) o) n, refl);
      },
      omega (arith, long, same, ap (λ (o : Option ℕ). length (rest_text sizes o)) n),
    )

    some_of : (n : ℕ) → (handlers : List Handler) → r.handlers ≡ handlers → r.rest ≡ Some n → IsSlebAt bytes at (minus (length handlers), begin) → (stop : ℕ) × AreCatches bytes at (catches_of sizes r, stop) × (stop ≡ at + length (catches_text sizes r))
    some_of n handlers e s size =
        let text : List ℕ = uleb_text (start sizes n) in
        let is : back ≡ text = ap (λ (o : Option ℕ). rest_text sizes o) s in
        let there : Here bytes mid text = here_is bytes (at + length (front ++ hs)) mid text same (here_same bytes (at + length (front ++ hs)) back text is behind) in
        let low_rest : start sizes n < 2 ^ 32 = omega (arith, start_few sizes n (omega (arith, fit.rest n s)) low) in
        let uleb : IsUlebAt bytes mid (start sizes n, mid + length text) = here_uleb bytes mid (start sizes n) low_rest there in
        let stop : ℕ = mid + length text in (
          stop,
          record {
            size = minus (length handlers);
            begin = begin;
            mid = mid;
            is_size = size;
            many = map_size (λ h. (h.kind, start sizes h.position)) r.handlers ∙ (ap (λ (x : List Handler). length x) e ∙ minus_size (length handlers));
            pairs = pairs;
            rest = rest_at (length handlers) (start sizes n) stop uleb (ap (λ (o : Option ℕ). option_map (λ p. start sizes p) o) s);
          },
          omega (arith, long, same, ap (λ (l : List ℕ). length l) is),
        )
      where
        minus_size : (k : ℕ) → k ≡ magnitude (minus k)
        minus_size zero = refl
        minus_size (suc k) = refl

        rest_at : (k unit stop : ℕ) → IsUlebAt bytes mid (unit, stop) → (catches_of sizes r).rest ≡ Some unit → IsRestAt bytes (minus k) mid (catches_of sizes r).rest stop
        rest_at zero unit stop u e = (unit, u, e)
        rest_at (suc k) unit stop u e = (unit, u, e)

    fits_plus : FitsSigned w32 (pos (length r.handlers))
    fits_plus = record { sfits = omega (arith, fit.few) }

    fits_minus : (k : ℕ) → k < 2 ^ 31 → FitsSigned w32 (minus k)
    fits_minus zero lt = record { sfits = omega arith }
    fits_minus (suc k) lt = record { sfits = omega (arith, lt) }

    by_rest : (o : Option ℕ) → r.rest ≡ o → (stop : ℕ) × AreCatches bytes at (catches_of sizes r, stop) × (stop ≡ at + length (catches_text sizes r))
    by_rest None n =
        let is : front ≡ sleb_text (pos (length r.handlers)) = ap (λ (o : Option ℕ). elim o [ None ↦ sleb_text (pos (length r.handlers)) | Some rest ↦ sleb_text (minus (length r.handlers)) ]) n in
        let s : IsSlebAt bytes at (pos (length r.handlers), at + length (sleb_text (pos (length r.handlers)))) = here_sleb bytes at (pos (length r.handlers)) fits_plus (here_same bytes at front (sleb_text (pos (length r.handlers))) is (here_left bytes at front hs both)) in
        none_of r.handlers refl n (subst (λ k. IsSlebAt bytes at (pos (length r.handlers), k)) (ap (λ (l : List ℕ). at + length l) (sym is)) s)
    by_rest (Some n) s =
        let is : front ≡ sleb_text (minus (length r.handlers)) = ap (λ (o : Option ℕ). elim o [ None ↦ sleb_text (pos (length r.handlers)) | Some rest ↦ sleb_text (minus (length r.handlers)) ]) s in
        let t : IsSlebAt bytes at (minus (length r.handlers), at + length (sleb_text (minus (length r.handlers)))) = here_sleb bytes at (minus (length r.handlers)) (fits_minus (length r.handlers) fit.few) (here_same bytes at front (sleb_text (minus (length r.handlers))) is (here_left bytes at front hs both)) in
        some_of n r.handlers refl s (subst (λ k. IsSlebAt bytes at (minus (length r.handlers), k)) (ap (λ (l : List ℕ). at + length l) (sym is)) t)

-- ---- all of the lists

-- the text of some region's list
abbrev pub IsListText : List ℕ → ℕ → List ℕ → Type 0
IsListText sizes types t = (r : Region) × (FitRegion sizes types r) × (t ≡ catches_text sizes r)

all_place : (P : List ℕ → Type 0) (x : List ℕ) (ys : List (List ℕ)) → P x → AllByRecursion P ys → AllByRecursion P (kept.insert x ys)
all_place P x [] p a = (p, tt)
all_place P x (y ∷ ys) p a = by (nat_lt (length x) (length y)) (all_place P x ys p a.1)
  where
    by : (b : Bool) → AllByRecursion P (kept.insert x ys) → AllByRecursion P (if b then x ∷ (y ∷ ys) else y ∷ kept.insert x ys)
    by true rest = (p, a)
    by false rest = (a.0, rest)

all_by : (P : List ℕ → Type 0) (s xs : List (List ℕ)) → AllByRecursion P s → AllByRecursion P xs → AllByRecursion P (by_length s xs)
all_by P s [] a b = a
all_by P s (x ∷ xs) a b = all_by P (kept.insert x s) xs (all_place P x s b.0 a) b.1

all_end : (P : List ℕ → Type 0) (xs : List (List ℕ)) (x : List ℕ) → AllByRecursion P xs → P x → AllByRecursion P (xs ++ x ∷ [])
all_end P [] x a p = (p, tt)
all_end P (y ∷ ys) x a p = (a.0, all_end P ys x a.1 p)

all_distinct : (P : List ℕ → Type 0) (before xs : List (List ℕ)) → AllByRecursion P before → AllByRecursion P xs → AllByRecursion P (distinct before xs)
all_distinct P before [] a b = a
all_distinct P before (x ∷ xs) a b = by (list_any (is_same x) before) (all_distinct P before xs a b.1) (all_distinct P (before ++ x ∷ []) xs (all_end P before x a b.0) b.1)
  where
    by : (t : Bool) → AllByRecursion P (distinct before xs) → AllByRecursion P (distinct (before ++ x ∷ []) xs) → AllByRecursion P (if t then distinct before xs else distinct (before ++ x ∷ []) xs)
    by true e f = e
    by false e f = f

-- one of these is the text
abbrev Has : List ℕ → List (List ℕ) → Type 0
Has x ts = list_any (λ t. is_same t x) ts ≡ true

same_self : (a : List ℕ) → is_same a a ≡ true
same_self a = (bytes_decides a a).1 refl

same_is : (a b : List ℕ) → is_same a b ≡ true → a ≡ b
same_is a b h = (bytes_decides a b).0 h

or_first : (a b : Bool) → a ≡ true → (a || b) ≡ true
or_first true b h = refl
or_first false b h = absurd cc

or_last : (a b : Bool) → b ≡ true → (a || b) ≡ true
or_last true b h = refl
or_last false b h = h

has_place : (x y : List ℕ) (ys : List (List ℕ)) → (is_same y x ≡ true) ⊎ Has x ys → Has x (kept.insert y ys)
has_place x y [] (inl e) = or_first (is_same y x) false e
has_place x y [] (inr h) = absurd cc
has_place x y (z ∷ zs) h = by (nat_lt (length y) (length z)) h (has_place x y zs)
  where
    by : (b : Bool) → (is_same y x ≡ true) ⊎ Has x (z ∷ zs) → ((is_same y x ≡ true) ⊎ Has x zs → Has x (kept.insert y zs)) → Has x (if b then y ∷ (z ∷ zs) else z ∷ kept.insert y zs)
    by true (inl e) on = or_first (is_same y x) (list_any (λ t. is_same t x) (z ∷ zs)) e
    by true (inr g) on = or_last (is_same y x) (list_any (λ t. is_same t x) (z ∷ zs)) g
    by false (inl e) on = or_last (is_same z x) (list_any (λ t. is_same t x) (kept.insert y zs)) (on (inl e))
    by false (inr g) on = elim (or_cases (is_same z x) (list_any (λ t. is_same t x) zs) g) [
      | inl e ↦ or_first (is_same z x) (list_any (λ t. is_same t x) (kept.insert y zs)) e
      | inr e ↦ or_last (is_same z x) (list_any (λ t. is_same t x) (kept.insert y zs)) (on (inr e))
    ]

has_by : (x : List ℕ) (s ys : List (List ℕ)) → Has x s ⊎ Has x ys → Has x (by_length s ys)
has_by x s [] (inl h) = h
has_by x s [] (inr h) = absurd cc
has_by x s (y ∷ ys) (inl h) = has_by x (kept.insert y s) ys (inl (has_place x y s (inr h)))
has_by x s (y ∷ ys) (inr h) = elim (or_cases (is_same y x) (list_any (λ t. is_same t x) ys) h) [
  | inl e ↦ has_by x (kept.insert y s) ys (inl (has_place x y s (inl e)))
  | inr e ↦ has_by x (kept.insert y s) ys (inr e)
]

has_end : (x y : List ℕ) (ys : List (List ℕ)) → (is_same y x ≡ true) ⊎ Has x ys → Has x (ys ++ y ∷ [])
has_end x y [] (inl e) = or_first (is_same y x) false e
has_end x y [] (inr h) = absurd cc
has_end x y (z ∷ zs) (inl e) = or_last (is_same z x) (list_any (λ t. is_same t x) (zs ++ y ∷ [])) (has_end x y zs (inl e))
has_end x y (z ∷ zs) (inr h) = elim (or_cases (is_same z x) (list_any (λ t. is_same t x) zs) h) [
  | inl e ↦ or_first (is_same z x) (list_any (λ t. is_same t x) (zs ++ y ∷ [])) e
  | inr e ↦ or_last (is_same z x) (list_any (λ t. is_same t x) (zs ++ y ∷ [])) (has_end x y zs (inr e))
]

-- what is the same as one of them is among them
turned : (x : List ℕ) (ys : List (List ℕ)) → list_any (is_same x) ys ≡ true → Has x ys
turned x [] h = absurd cc
turned x (y ∷ ys) h = elim (or_cases (is_same x y) (list_any (is_same x) ys) h) [
  | inl e ↦ or_first (is_same y x) (list_any (λ t. is_same t x) ys) (ap (λ (z : List ℕ). is_same y z) (same_is x y e) ∙ same_self y)
  | inr e ↦ or_last (is_same y x) (list_any (λ t. is_same t x) ys) (turned x ys e)
]

has_distinct : (x : List ℕ) (before ys : List (List ℕ)) → Has x before ⊎ Has x ys → Has x (distinct before ys)
has_distinct x before [] (inl h) = h
has_distinct x before [] (inr h) = absurd cc
has_distinct x before (y ∷ ys) h = by (list_any (is_same y) before) refl h (has_distinct x before ys) (has_distinct x (before ++ y ∷ []) ys)
  where
    by : (b : Bool) → list_any (is_same y) before ≡ b → Has x before ⊎ Has x (y ∷ ys) → (Has x before ⊎ Has x ys → Has x (distinct before ys)) → (Has x (before ++ y ∷ []) ⊎ Has x ys → Has x (distinct (before ++ y ∷ []) ys)) → Has x (if b then distinct before ys else distinct (before ++ y ∷ []) ys)
    by true e (inl g) on more = on (inl g)
    by true e (inr g) on more = elim (or_cases (is_same y x) (list_any (λ t. is_same t x) ys) g) [
      | inl s ↦ on (inl (subst (λ z. Has z before) (same_is y x s) (turned y before e)))
      | inr s ↦ on (inr s)
    ]
    by false e (inl g) on more = more (inl (has_end x y before (inr g)))
    by false e (inr g) on more = elim (or_cases (is_same y x) (list_any (λ t. is_same t x) ys) g) [
      | inl s ↦ more (inl (has_end x y before (inl s)))
      | inr s ↦ more (inr s)
    ]

-- lists before the one at a place
record ListFound (bytes x : List ℕ) (many at place : ℕ) : Type 0 where
  before : List Catches
  fewer : length before < many
  behind : ChainOf (AreCatches bytes) at before place
  here : Here bytes place x

find_list : (bytes sizes x : List ℕ) (types base off at : ℕ) (ts : List (List ℕ)) → types ≤ 65536 → start sizes (length sizes) < 2 ^ 31 → AllByRecursion (IsListText sizes types) ts → at ≡ base + off → Here bytes at (concat ts) → Has x ts → ListFound bytes x (length ts) at (base + place_of ts (begins_from off ts) x)
find_list bytes sizes x types base off at [] few low a e here has = absurd cc
find_list bytes sizes x types base off at (t ∷ ts) few low a e here has = by (is_same t x) refl (λ stop s there h. find_list bytes sizes x types base (off + length t) stop ts few low a.1 s there h)
  where
    next : ℕ
    next = off + length t

    by : (b : Bool) → is_same t x ≡ b → ((stop : ℕ) → stop ≡ base + (off + length t) → Here bytes stop (concat ts) → Has x ts → ListFound bytes x (length ts) stop (base + place_of ts (begins_from (off + length t) ts) x)) → ListFound bytes x (suc (length ts)) at (base + place_of (t ∷ ts) (begins_from off (t ∷ ts)) x)
    by true s more =
        let place : place_of (t ∷ ts) (begins_from off (t ∷ ts)) x ≡ off = ap (λ (b : Bool). if b then off else place_of ts (begins_from next ts) x) s in
        let there : at ≡ base + place_of (t ∷ ts) (begins_from off (t ∷ ts)) x = e ∙ ap (λ (k : ℕ). base + k) (sym place) in
        record { before = []; fewer = omega arith; behind = sym there; here = here_is bytes at (base + place_of (t ∷ ts) (begins_from off (t ∷ ts)) x) x there (here_same bytes at t x (same_is t x s) (here_left bytes at t (concat ts) here)) }
    by false s more =
        let text = a.0 in
        let fit : FitRegion sizes types text.0 = text.1 in
        let one = catches_stand bytes sizes types at text.0 few low fit (here_same bytes at t (catches_text sizes text.0) text.2 (here_left bytes at t (concat ts) here)) in
        let stop : ℕ = one.0 in
        let at_next : at + length t ≡ stop = ap (λ (l : List ℕ). at + length l) text.2 ∙ sym one.2 in
        let rest_has : Has x ts = ap (λ (b : Bool). b || list_any (λ t. is_same t x) ts) (sym s) ∙ has in
        let rest : ListFound bytes x (length ts) stop (base + place_of ts (begins_from next ts) x) = more stop (sym at_next ∙ omega (arith, e)) (here_is bytes (at + length t) stop (concat ts) at_next (here_right bytes at t (concat ts) here)) rest_has in
        let place : place_of (t ∷ ts) (begins_from off (t ∷ ts)) x ≡ place_of ts (begins_from next ts) x = ap (λ (b : Bool). if b then off else place_of ts (begins_from next ts) x) s in
        subst (λ k. ListFound bytes x (suc (length ts)) at (base + k)) (sym place) (record { before = catches_of sizes text.0 ∷ rest.before; fewer = omega (arith, rest.fewer); behind = (stop, one.1, rest.behind); here = rest.here })

texts_all : (sizes : List ℕ) (types : ℕ) (rs : List Region) → AllByRecursion (FitRegion sizes types) rs → AllByRecursion (IsListText sizes types) (map (catches_text sizes) rs)
texts_all sizes types [] a = tt
texts_all sizes types (r ∷ rs) a = ((r, a.0, refl), texts_all sizes types rs a.1)

-- the list of a region among those of all stands where its offset says
pub list_stands : (bytes sizes : List ℕ) (types at : ℕ) (rs : List Region) (r : Region) → types ≤ 65536 → start sizes (length sizes) < 2 ^ 31 → AllByRecursion (FitRegion sizes types) rs → FitRegion sizes types r → Has (catches_text sizes r) (map (catches_text sizes) rs) → length (written_lists sizes rs) < 2 ^ 32
    → Here bytes at (lists_text sizes rs) → AreCatchesAt bytes at (list_offset sizes rs r) (catches_of sizes r)
list_stands bytes sizes types at rs r few low all fit has many here =
    let ts : List (List ℕ) = written_lists sizes rs in
    let count : List ℕ = uleb_text (length ts) in
    let x : List ℕ = catches_text sizes r in
    let texts : AllByRecursion (IsListText sizes types) ts = all_by (IsListText sizes types) [] (distinct [] (map (catches_text sizes) rs)) tt (all_distinct (IsListText sizes types) [] (map (catches_text sizes) rs) tt (texts_all sizes types rs all)) in
    let there : Has x ts = has_by x [] (distinct [] (map (catches_text sizes) rs)) (inr (has_distinct x [] (map (catches_text sizes) rs) (inr has))) in
    let found = find_list bytes sizes x types at (length count) (at + length count) ts few low texts refl (here_right bytes at count (concat ts) here) there in
    let one = catches_stand bytes sizes types (at + list_offset sizes rs r) r few low fit found.here in
    record {
      count = length ts;
      begin = at + length count;
      stop = one.0;
      is_count = here_uleb bytes at (length ts) many (here_left bytes at count (concat ts) here);
      before = found.before;
      fewer = found.fewer;
      behind = found.behind;
      are = one.1;
    }

pub has_self : (sizes : List ℕ) (before rs : List Region) (r : Region) → Has (catches_text sizes r) (map (catches_text sizes) (before ++ (r ∷ rs)))
has_self sizes [] rs r = or_first (is_same (catches_text sizes r) (catches_text sizes r)) (list_any (λ t. is_same t (catches_text sizes r)) (map (catches_text sizes) rs)) (same_self (catches_text sizes r))
has_self sizes (b ∷ before) rs r = or_last (is_same (catches_text sizes b) (catches_text sizes r)) (list_any (λ t. is_same t (catches_text sizes r)) (map (catches_text sizes) (before ++ (r ∷ rs)))) (has_self sizes before rs r)

-- ---- positions

-- so many positions begin before a unit
pub count_is : (sizes starts : List ℕ) (from k u : ℕ) → ((j : ℕ) → j < length starts → slice_get starts j ≡ Some (start sizes (from + j))) → k ≤ length starts → ((j : ℕ) → j < k → start sizes (from + j) < u) → (k < length starts → u ≤ start sizes (from + k)) → count_below u starts ≡ k
count_is sizes [] from zero u at le low high = refl
count_is sizes [] from (suc k) u at le low high = absurd (omega (arith, le))
count_is sizes (s ∷ ss) from zero u at le low high =
    let here : s ≡ start sizes (from + 0) = first (at 0 (omega arith)) in
    ap (λ (b : Bool). if b then suc (count_below u ss) else 0) (le-ltb s u (omega (arith, here, high (omega arith))))
  where
    first : Some s ≡ Some (start sizes (from + 0)) → s ≡ start sizes (from + 0)
    first e = cc
count_is sizes (s ∷ ss) from (suc k) u at le low high =
    let here : s ≡ start sizes (from + 0) = first (at 0 (omega arith)) in
    let less : s < u = omega (arith, here, low 0 (omega arith)) in
    ap (λ (b : Bool). if b then suc (count_below u ss) else 0) (lt-ltb s u less) ∙ ap suc (count_is sizes ss (suc from) k u
    (λ j lt. at (suc j) (omega (arith, lt)) ∙ ap (λ (n : ℕ). Some (start sizes n)) (next from j)) (omega (arith, le))
    (λ j lt. subst (λ n. start sizes n < u) (next from j) (low (suc j) (omega (arith, lt))))
    (λ lt. subst (λ n. u ≤ start sizes n) (next from k) (high (omega (arith, lt)))))
  where
    first : Some s ≡ Some (start sizes (from + 0)) → s ≡ start sizes (from + 0)
    first e = cc

    next : (from j : ℕ) → from + suc j ≡ suc from + j
    next from j = omega arith

abbrev pub try_of : List ℕ → List Region → Region → Try
try_of sizes rs r = record { start = start sizes r.first; count = covered sizes r; offset = list_offset sizes rs r }

module _ (bytes sizes : List ℕ) (types : ℕ) (places : Places) (few : types ≤ 65536) (low : start sizes (length sizes) < 2 ^ 31) (some : AllSome sizes) (long : length places.starts ≡ length sizes)
    (at : (j : ℕ) → j < length sizes → slice_get places.starts j ≡ Some (start sizes j)) (units : start sizes (length sizes) ≤ length places.units) where
  at_zero : (j : ℕ) → j < length places.starts → slice_get places.starts j ≡ Some (start sizes (0 + j))
  at_zero j lt = at j (omega (arith, lt, long)) ∙ ap (λ (n : ℕ). Some (start sizes n)) (let e : j ≡ 0 + j = omega arith in e)

  zero_plus : (j : ℕ) → 0 + j ≡ j
  zero_plus j = omega arith

  counted : (k u : ℕ) → k ≤ length sizes → ((j : ℕ) → j < k → start sizes j < u) → (k < length sizes → u ≤ start sizes k) → count_below u places.starts ≡ k
  counted k u le below above = count_is sizes places.starts 0 k u at_zero (omega (arith, le, long)) (λ j lt. subst (λ n. start sizes n < u) (sym (zero_plus j)) (below j lt)) (λ lt. subst (λ n. u ≤ start sizes n) (sym (zero_plus k)) (above (omega (arith, lt, long))))

  first_is : (rs : List Region) (r : Region) → FitRegion sizes types r → first_position places (try_of sizes rs r) ≡ r.first
  first_is rs r fit = counted r.first (start sizes r.first) (omega (arith, fit.some, fit.inside)) (λ j lt. start_less sizes j r.first some lt (omega (arith, lt, fit.some, fit.inside))) (λ lt. omega arith)

  -- where the units of a try item end: behind the start of its last position, and not behind its end
  reaches : (r : Region) → FitRegion sizes types r → (start sizes (r.end - 1) < start sizes r.first + covered sizes r) × (start sizes r.first + covered sizes r ≤ start sizes r.end)
  reaches r fit =
      let before : r.end - 1 < r.end = omega (arith, fit.some) in
      let last : start sizes (r.end - 1) < start sizes r.end = start_less sizes (r.end - 1) r.end some before (omega (arith, before, fit.inside)) in
      let order : start sizes r.first ≤ start sizes (r.end - 1) = start_mono sizes r.first (r.end - 1) (omega (arith, fit.some)) in
      (omega (arith, fit.near, last, order), omega (arith, last, order))

  end_is : (rs : List Region) (r : Region) → FitRegion sizes types r → end_position places (try_of sizes rs r) ≡ r.end
  end_is rs r fit =
      let both = reaches r fit in
      counted r.end (start sizes r.first + covered sizes r) fit.inside (λ j lt. omega (arith, both.0, start_mono sizes j (r.end - 1) (omega (arith, lt)))) (λ lt. both.1)

  covers_is : (rs : List Region) (r : Region) → FitRegion sizes types r → covers places (try_of sizes rs r) ≡ true
  covers_is rs r fit = ap (λ (k : ℕ). nat_lt k (end_position places (try_of sizes rs r))) (first_is rs r fit) ∙ (ap (λ (k : ℕ). nat_lt r.first k) (end_is rs r fit) ∙ lt-ltb r.first r.end fit.some)

  handlers_are : (hs : List Handler) → AllByRecursion (λ h. (h.kind < types) × (h.position < length sizes)) hs → AreHandlers places types (map (λ h. (h.kind, start sizes h.position)) hs) hs
  handlers_are [] a = tt
  handlers_are (h ∷ hs) a = (record { kind = refl; below = a.0.0; position = at h.position a.0.1 }, handlers_are hs a.1)

  rest_is : (o : Option ℕ) → ((position : ℕ) → o ≡ Some position → position < length sizes) → IsRest places (option_map (λ p. start sizes p) o) o
  rest_is None h = tt
  rest_is (Some p) h = at p (h p refl)

  pub regions_are : (lists : ℕ) (all before rs : List Region) → all ≡ before ++ rs → AllByRecursion (FitRegion sizes types) all → AllByRecursion (FitRegion sizes types) rs → length (written_lists sizes all) < 2 ^ 32 → Here bytes lists (lists_text sizes all)
      → AreRegions bytes places lists types (covering places (map (try_of sizes all) rs)) rs
  regions_are lists all before [] e a b many here = tt
  regions_are lists all before (r ∷ rs) e a b many here =
      let fit : FitRegion sizes types r = b.0 in
      let inside : start sizes r.end ≤ start sizes (length sizes) = start_mono sizes r.end (length sizes) fit.inside in
      let has : Has (catches_text sizes r) (map (catches_text sizes) all) = subst (λ l. Has (catches_text sizes r) (map (catches_text sizes) l)) (sym e) (has_self sizes before rs r) in
      let one : IsRegion bytes places lists types (try_of sizes all r) r = record {
        begins = at r.first (omega (arith, fit.some, fit.inside));
        inside = omega (arith, (reaches r fit).1, inside, units);
        ends = sym (end_is all r fit);
        catches = catches_of sizes r;
        are = list_stands bytes sizes types lists all r few low a fit has many here;
        handlers = handlers_are r.handlers fit.handlers;
        rest = rest_is r.rest fit.rest;
      } in
      let rest = regions_are lists all (before ++ r ∷ []) rs (e ∙ sym (append_assoc before (r ∷ []) rs)) a b.1 many here in
      let kept_one : covering places (try_of sizes all r ∷ map (try_of sizes all) rs) ≡ try_of sizes all r ∷ covering places (map (try_of sizes all) rs) = ap (λ (t : Bool). if t then try_of sizes all r ∷ covering places (map (try_of sizes all) rs) else covering places (map (try_of sizes all) rs)) (covers_is all r fit) in
      subst (λ ts. AreRegions bytes places lists types ts (r ∷ rs)) (sym kept_one) (one, rest)
