-- Tables that rise no further than some arrivals demand.
use Rattle.std.proofs.Common.{◌≡◌, ℕ, suc, Bool, true, false, List, [], ◌∷◌, ◌++◌, map, length, Option, Some, None, sym, ◌∙◌, arith}
use Rattle.std.specs.Prelude.{All, slice_index_or, if◌then◌else◌}
use Rattle.std.proofs.lemmas.List.Elements.{All-nil, All-cons, All-append, All-map, All-weaker}
use Rattle.insn_set.specs.declared.form.Insn.{Insn}
use Rattle.insn_set.specs.Flow.{goes_on, targets_of}
use Rattle.program_model.specs.declared.body.Handler.{Handler}
use Rattle.program_model.specs.declared.body.Region.{Region}
use Rattle.verify.specs.declared.kinds.Kind.{Kind}
use Rattle.verify.specs.declared.kinds.Kind.TheVariants as kind
use Rattle.verify.specs.declared.tables.Tables.{Tables}
use Rattle.verify.specs.Flow.{Arrived, arrived, arrived_all, caught_as, handled, handled_rest, caught_in, place_at, next_of, gone_on}
use Rattle.verify.specs.Frames.{Kinds}
use Rattle.verify.specs.Types.{kind_of}
use Rattle.verify.specs.Typings.{IsLattice, Table, IsUnder, Arrives, catches_in, catch_rest, next_if, onward_by}
use Rattle.verify.proofs.Arrives.{Grows, Stands, stands_on, grows_same, grows_on, at_most_itself, arrived_grows, arrived_up, arrived_arrives, arrived_under, arrives_on, under_on}

-- The second positions are the least above the first ones at which the demand holds, which holds of what is higher too.
pub record Reaches (t : Tables) (m : ℕ) (P : Table → Type 0) (w w' : Arrived) : Type 1 where
  pub grows : Grows t m w w'
  pub up : IsLattice t → IsUnder t w.places w'.places
  pub holds : IsLattice t → P w'.places
  pub under : IsLattice t → (y : Table) → length y ≡ length w.places → P y → IsUnder t w.places y → IsUnder t w'.places y
  pub higher : IsLattice t → (x y : Table) → length y ≡ length x → IsUnder t x y → P x → P y

pub reaches_same : (t : Tables) (m : ℕ) (P : Table → Type 0) (w : Arrived) → Stands m w → ((y : Table) → P y) → Reaches t m P w w
reaches_same t m P w s h = record {
  grows = grows_same t m w s;
  up = λ l n. at_most_itself t (place_at w.places n);
  holds = λ l. h w.places;
  under = λ l y e p u. u;
  higher = λ l x y e u p. h y;
}

pub reaches_on : (t : Tables) (m : ℕ) (P Q R : Table → Type 0) (w w' w'' : Arrived) → ((y : Table) → P y → Q y → R y) → ((y : Table) → R y → P y) → ((y : Table) → R y → Q y) → Reaches t m P w w' → Reaches t m Q w' w'' → Reaches t m R w w''
reaches_on t m P Q R w w' w'' both first second a b = record {
  grows = grows_on t m w w' w'' a.grows b.grows;
  up = λ l. under_on t l w.places w'.places w''.places (a.up l) (b.up l);
  holds = λ l. both w''.places (a.higher l w'.places w''.places b.grows.long (b.up l) (a.holds l)) (b.holds l);
  under = λ l y e r u. b.under l y (e ∙ sym a.grows.long) (second y r) (a.under l y e (first y r) u);
  higher = λ l x y e u r. both y (a.higher l x y e u (first x r)) (b.higher l x y e u (second x r));
}

pub reaches_as : (t : Tables) (m : ℕ) (P Q : Table → Type 0) (w w' : Arrived) → ((y : Table) → P y → Q y) → ((y : Table) → Q y → P y) → Reaches t m P w w' → Reaches t m Q w w'
reaches_as t m P Q w w' to from a = record {
  grows = a.grows;
  up = a.up;
  holds = λ l. to w'.places (a.holds l);
  under = λ l y e q u. a.under l y e (from y q) u;
  higher = λ l x y e u q. to y (a.higher l x y e u (from x q));
}

-- ---- elements of a list

pub all_head : {X : Type 0} (P : X → Type 0) (x : X) (xs : List X) → All P (x ∷ xs) → P x
all_head P x xs h = h 0 x (omega arith)

pub all_tail : {X : Type 0} (P : X → Type 0) (x : X) (xs : List X) → All P (x ∷ xs) → All P xs
all_tail P x xs h k d lt = h (suc k) d (omega arith)

pub all_left : {X : Type 0} (P : X → Type 0) (xs ys : List X) → All P (xs ++ ys) → All P xs
all_left P [] ys h = All-nil P
all_left P (x ∷ xs) ys h = All-cons P x xs (all_head P x (xs ++ ys) h) (all_left P xs ys (all_tail P x (xs ++ ys) h))

pub all_right : {X : Type 0} (P : X → Type 0) (xs ys : List X) → All P (xs ++ ys) → All P ys
all_right P [] ys h = h
all_right P (x ∷ xs) ys h = all_right P xs ys (all_tail P x (xs ++ ys) h)

pub all_unmap : {X Y : Type 0} (P : Y → Type 0) (f : X → Y) (xs : List X) → All P (map f xs) → All (λ x. P (f x)) xs
all_unmap P f [] h = All-nil (λ x. P (f x))
all_unmap P f (x ∷ xs) h = All-cons (λ y. P (f y)) x xs (all_head P (f x) (map f xs) h) (all_unmap P f xs (all_tail P (f x) (map f xs) h))

pub all_from : {X : Type 0} (P Q : X → Type 0) (xs : List X) → ((x : X) → P x → Q x) → All P xs → All Q xs
all_from P Q xs f h = All-weaker P Q f xs h

-- both hold of each element
pub all_both : {X : Type 0} (P Q R : X → Type 0) (xs : List X) → ((x : X) → P x → Q x → R x) → All P xs → All Q xs → All R xs
all_both P Q R xs f p q k d lt = f (slice_index_or xs k d) (p k d lt) (q k d lt)

-- ---- arrivals

pub arrived_reaches : (t : Tables) (m q : ℕ) (a : Kinds) (w : Arrived) → Stands m w → length a.registers ≡ m → Reaches t m (λ y. Arrives t y q a) w (arrived t q a w)
arrived_reaches t m q a w s width = record {
  grows = arrived_grows t m q a w s width;
  up = λ l. arrived_up t l m q a w s width;
  holds = λ l. arrived_arrives t l m q a w s width;
  under = λ l y e p u. arrived_under t l m q a w y s width e u p;
  higher = λ l x y e u p. arrives_on t l x y q a e u p;
}

pub arrived_all_reaches : (t : Tables) (m : ℕ) (qs : List ℕ) (a : Kinds) (w : Arrived) → Stands m w → length a.registers ≡ m → Reaches t m (λ y. All (λ q. Arrives t y q a) qs) w (arrived_all t qs a w)
arrived_all_reaches t m [] a w s width = reaches_same t m (λ y. All (λ q. Arrives t y q a) []) w s (λ y. All-nil (λ q. Arrives t y q a))
arrived_all_reaches t m (q ∷ qs) a w s width =
    let first = arrived_reaches t m q a w s width in
    reaches_on t m (λ y. Arrives t y q a) (λ y. All (λ q. Arrives t y q a) qs) (λ y. All (λ q. Arrives t y q a) (q ∷ qs)) w (arrived t q a w) (arrived_all t qs a (arrived t q a w))
    (λ y p r. All-cons (λ q. Arrives t y q a) q qs p r) (λ y r. all_head (λ q. Arrives t y q a) q qs r) (λ y r. all_tail (λ q. Arrives t y q a) q qs r)
    first (arrived_all_reaches t m qs a (arrived t q a w) (stands_on t m w (arrived t q a w) s first.grows) width)

-- ---- handlers

abbrev pub HandledIn : Tables → Kinds → Table → Handler → Type 0
HandledIn t a y h = Arrives t y h.position (caught_as a (kind_of t h.kind))

pub handled_reaches : (t : Tables) (m : ℕ) (hs : List Handler) (a : Kinds) (w : Arrived) → Stands m w → length a.registers ≡ m → Reaches t m (λ y. All (HandledIn t a y) hs) w (handled t hs a w)
handled_reaches t m [] a w s width = reaches_same t m (λ y. All (HandledIn t a y) []) w s (λ y. All-nil (HandledIn t a y))
handled_reaches t m (h ∷ hs) a w s width =
    let w' = arrived t h.position (caught_as a (kind_of t h.kind)) w in
    let first = arrived_reaches t m h.position (caught_as a (kind_of t h.kind)) w s width in
    reaches_on t m (λ y. HandledIn t a y h) (λ y. All (HandledIn t a y) hs) (λ y. All (HandledIn t a y) (h ∷ hs)) w w' (handled t hs a w')
    (λ y p r. All-cons (HandledIn t a y) h hs p r) (λ y r. all_head (HandledIn t a y) h hs r) (λ y r. all_tail (HandledIn t a y) h hs r)
    first (handled_reaches t m hs a w' (stands_on t m w w' s first.grows) width)

-- kinds that a region throws arrive at its handlers
abbrev pub CaughtAt : Tables → Kinds → Table → (ℕ × Kind) → Type 0
CaughtAt t a y h = Arrives t y h.0 (caught_as a h.1)

abbrev pub Catches : Tables → Region → Kinds → Table → Type 0
Catches t r a y = All (CaughtAt t a y) (catches_in t (Some r))

rest_reaches : (t : Tables) (m : ℕ) (q : Option ℕ) (a : Kinds) (w : Arrived) → Stands m w → length a.registers ≡ m → Reaches t m (λ y. All (CaughtAt t a y) (catch_rest q)) w (handled_rest t q a w)
rest_reaches t m None a w s width = reaches_same t m (λ y. All (CaughtAt t a y) []) w s (λ y. All-nil (CaughtAt t a y))
rest_reaches t m (Some q) a w s width = reaches_as t m (λ y. Arrives t y q (caught_as a kind.Reference)) (λ y. All (CaughtAt t a y) ((q, kind.Reference) ∷ [])) w (arrived t q (caught_as a kind.Reference) w)
    (λ y p. All-cons (CaughtAt t a y) (q, kind.Reference) [] p (All-nil (CaughtAt t a y))) (λ y r. all_head (CaughtAt t a y) (q, kind.Reference) [] r)
    (arrived_reaches t m q (caught_as a kind.Reference) w s width)

abbrev named : Tables → Handler → ℕ × Kind
named t h = (h.position, kind_of t h.kind)

pub caught_reaches : (t : Tables) (m : ℕ) (r : Region) (a : Kinds) (w : Arrived) → Stands m w → length a.registers ≡ m → Reaches t m (Catches t r a) w (caught_in t r a w)
caught_reaches t m r a w s width =
    let w' = handled t r.handlers a w in
    let first = handled_reaches t m r.handlers a w s width in
    reaches_on t m (λ y. All (HandledIn t a y) r.handlers) (λ y. All (CaughtAt t a y) (catch_rest r.rest)) (Catches t r a) w w' (handled_rest t r.rest a w')
    (λ y p q. All-append (CaughtAt t a y) (map (named t) r.handlers) (catch_rest r.rest) (All-map (CaughtAt t a y) (named t) r.handlers p) q)
    (λ y c. all_unmap (CaughtAt t a y) (named t) r.handlers (all_left (CaughtAt t a y) (map (named t) r.handlers) (catch_rest r.rest) c))
    (λ y c. all_right (CaughtAt t a y) (map (named t) r.handlers) (catch_rest r.rest) c)
    first (rest_reaches t m r.rest a w' (stands_on t m w w' s first.grows) width)

-- ---- the next position and the targets

abbrev pub Onward : Tables → Insn → ℕ → Kinds → Table → Type 0
Onward t i next a y = All (λ q. Arrives t y q a) (onward_by i next)

pub gone_reaches : (t : Tables) (m n : ℕ) (i : Insn) (a : Kinds) (w : Arrived) → Stands m w → length a.registers ≡ m → Reaches t m (Onward t i (next_of n) a) w (gone_on t n i a w)
gone_reaches t m n i a w s width = go (goes_on i)
  where
    w' : Arrived
    w' = arrived_all t (targets_of i) a w

    first : Reaches t m (λ y. All (λ q. Arrives t y q a) (targets_of i)) w w'
    first = arrived_all_reaches t m (targets_of i) a w s width

    last : Reaches t m (λ y. Arrives t y (next_of n) a) w' (arrived t (next_of n) a w')
    last = arrived_reaches t m (next_of n) a w' (stands_on t m w w' s first.grows) width

    go : (c : Bool) → Reaches t m (λ y. All (λ q. Arrives t y q a) (targets_of i ++ next_if c (next_of n))) w (if c then arrived t (next_of n) a w' else w')
    go false = reaches_as t m (λ y. All (λ q. Arrives t y q a) (targets_of i)) (λ y. All (λ q. Arrives t y q a) (targets_of i ++ [])) w w'
        (λ y p. All-append (λ q. Arrives t y q a) (targets_of i) [] p (All-nil (λ q. Arrives t y q a))) (λ y p. all_left (λ q. Arrives t y q a) (targets_of i) [] p) first
    go true = reaches_on t m (λ y. All (λ q. Arrives t y q a) (targets_of i)) (λ y. Arrives t y (next_of n) a) (λ y. All (λ q. Arrives t y q a) (targets_of i ++ next_of n ∷ [])) w w' (arrived t (next_of n) a w')
        (λ y p r. All-append (λ q. Arrives t y q a) (targets_of i) (next_of n ∷ []) p (All-cons (λ q. Arrives t y q a) (next_of n) [] r (All-nil (λ q. Arrives t y q a))))
        (λ y p. all_left (λ q. Arrives t y q a) (targets_of i) (next_of n ∷ []) p)
        (λ y p. all_head (λ q. Arrives t y q a) (next_of n) [] (all_right (λ q. Arrives t y q a) (targets_of i) (next_of n ∷ []) p))
        first last
