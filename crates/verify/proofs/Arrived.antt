-- What the arrival of a frame does, in the words of the code.
use Rattle.std.proofs.Common.{◌≡◌, ℕ, suc, ◌+◌, ◌<◌, ◌≤◌, Bool, true, false, List, [], ◌∷◌, ◌++◌, map, replicate, set, drop, add-one, drop-cons, length, get_or, Option, Some, None, refl, sym, ap, ◌∙◌, subst}
use Rattle.std.specs.Prelude.{slice_get, slice_set, if◌then◌else◌}
use Rattle.std.specs.Option.{option_map}
use Rattle.std.proofs.lemmas.Option.{slice_get-map, slice_get_read, slice_get_past}
use Rattle.std.proofs.lemmas.List.{map-set, length-map, map-append, replicate_more, drop_all}
use Rattle.verify.specs.declared.frames.Frame.{Frame}
use Rattle.verify.specs.declared.tables.Tables.{Tables}
use Rattle.verify.specs.Flow.{met, rises_in, kinds_in, places_of, Arrived, arrived_at, arrived, arrived_all, caught_as, handled, Flowing, thrown_in, thrown_on, thrown_to}
use Rattle.program_model.specs.declared.body.Region.{Region}
use Rattle.verify.specs.Types.{kind_of}
use Rattle.program_model.specs.declared.body.Handler.{Handler}
use Rattle.verify.specs.Frames.{Kinds}

made : List (Option Kinds) → List Bool → Arrived
made ps ws = record { places = ps; waits = ws }

flowing : Arrived → List (Option Kinds) → Flowing
flowing w rs = record { arrivals = w; regions = rs }

pub arrived_one : (t : Tables) (q : ℕ) (a : Kinds) (fs : List (Option Frame)) (ws ws' : List Bool) (old new : Option Frame) (n : ℕ) → n ≡ length fs → q < n → old ≡ get_or fs q old → kinds_in new ≡ Some (met t a (kinds_in old))
    → ws' ≡ (if rises_in t a (kinds_in old) then slice_set ws q true else ws) → record { places = places_of (set fs q new); waits = ws' } ≡ arrived t q a (record { places = places_of fs; waits = ws })
unfolding made
arrived_one t q a fs ws ws' old new n long lt is_old is_new marks =
    let at : slice_get fs q ≡ Some old = slice_get_read fs n q old long lt is_old in
    let here : slice_get (places_of fs) q ≡ Some (kinds_in old) = slice_get-map kinds_in fs q ∙ ap (option_map kinds_in) at in
    let s : places_of (set fs q new) ≡ set (places_of fs) q (Some (met t a (kinds_in old))) = map-set' kinds_in fs q new ∙ ap (λ x. set (places_of fs) q x) is_new in
    ap (λ x. made x ws') s ∙ ap (made (set (places_of fs) q (Some (met t a (kinds_in old))))) marks ∙ sym (ap (arrived_at t q a (made (places_of fs) ws)) here)
  where
    map-set' : {A B : Type 0} (f : A → B) (l : List A) (i : ℕ) (x : A) → map f (set l i x) ≡ set (map f l) i (f x)
    map-set' f l i x = map-set f l i x

pub arrived_past : (t : Tables) (q : ℕ) (a : Kinds) (fs : List (Option Frame)) (ws : List Bool) (n : ℕ) → n ≡ length fs → n ≤ q → record { places = places_of fs; waits = ws } ≡ arrived t q a (record { places = places_of fs; waits = ws })
unfolding made
arrived_past t q a fs ws n long le =
    let here : slice_get (places_of fs) q ≡ None = slice_get_past (places_of fs) q (subst (λ k. k ≤ q) (long ∙ sym (length-map fs kinds_in)) le) in
    sym (ap (arrived_at t q a (made (places_of fs) ws)) here)

pub marked : (r : Bool) (c : Bool) (ws ws' : List Bool) (q : ℕ) → r ≡ c → r ≡ true → ws' ≡ slice_set ws q true → ws' ≡ (if c then slice_set ws q true else ws)
marked r c ws ws' q e h w = rw (sym e ∙ h) w

pub unmarked : (r : Bool) (c : Bool) (ws : List Bool) (q : ℕ) → r ≡ c → r ≡ false → ws ≡ (if c then slice_set ws q true else ws)
unmarked r c ws q e h = rw (sym e ∙ h) refl

-- one more target, and one more handler
pub arrived_on : (t : Tables) (qs : List ℕ) (a : Kinds) (w w' r : Arrived) (i q : ℕ) → i < length qs → q ≡ get_or qs i 0 → w' ≡ arrived t q a w → arrived_all t (drop i qs) a w ≡ r → arrived_all t (drop (i + 1) qs) a w' ≡ r
arrived_on t qs a w w' r i q lt e f inv =
    let d : drop i qs ≡ get_or qs i 0 ∷ drop (suc i) qs = drop-cons qs i 0 lt in
    let v : arrived_all t (get_or qs i 0 ∷ drop (suc i) qs) a w ≡ r = rw d at inv in
    rw (add-one, f, e) v

pub handled_on : (t : Tables) (hs : List Handler) (a a' : Kinds) (w w' r : Arrived) (i : ℕ) (h : Handler) → i < length hs → h ≡ get_or hs i h → a' ≡ a → w' ≡ arrived t h.position (caught_as a' (kind_of t h.kind)) w → handled t (drop i hs) a w ≡ r → handled t (drop (i + 1) hs) a w' ≡ r
handled_on t hs a a' w w' r i h lt e same f inv =
    let d : drop i hs ≡ get_or hs i h ∷ drop (suc i) hs = drop-cons hs i h lt in
    let v : handled t (get_or hs i h ∷ drop (suc i) hs) a w ≡ r = rw d at inv in
    let v' : handled t (h ∷ drop (suc i) hs) a w ≡ r = subst (λ x. handled t (x ∷ drop (suc i) hs) a w ≡ r) (sym e) v in
    rw (add-one, f, same) v'

pub arrived_end : (t : Tables) (qs : List ℕ) (a : Kinds) (w r : Arrived) (i : ℕ) → length qs ≤ i → arrived_all t (drop i qs) a w ≡ r → w ≡ r
arrived_end t qs a w r i le inv = let d : drop i qs ≡ [] = drop_all i qs le in subst (λ x. arrived_all t x a w ≡ r) d inv

pub handled_end : (t : Tables) (hs : List Handler) (a : Kinds) (w r : Arrived) (i : ℕ) → length hs ≤ i → handled t (drop i hs) a w ≡ r → w ≡ r
handled_end t hs a w r i le inv = let d : drop i hs ≡ [] = drop_all i hs le in subst (λ x. handled t x a w ≡ r) d inv

-- what is thrown at a region with a place
pub thrown_one : (t : Tables) (r : Region) (n : ℕ) (a : Kinds) (rs : List (Option Frame)) (w w' : Arrived) (old new : Option Frame) (m : ℕ) → m ≡ length rs → n < m → old ≡ get_or rs n old → kinds_in new ≡ Some (met t a (kinds_in old))
    → w' ≡ thrown_in t r a w (kinds_in old) → record { arrivals = w'; regions = places_of (set rs n new) } ≡ thrown_to t (Some r) n a (record { arrivals = w; regions = places_of rs })
unfolding flowing
thrown_one t r n a rs w w' old new m long lt is_old is_new is =
    let at : slice_get rs n ≡ Some old = slice_get_read rs m n old long lt is_old in
    let here : slice_get (places_of rs) n ≡ Some (kinds_in old) = slice_get-map kinds_in rs n ∙ ap (option_map kinds_in) at in
    let s : places_of (set rs n new) ≡ set (places_of rs) n (Some (met t a (kinds_in old))) = map-set' kinds_in rs n new ∙ ap (λ x. set (places_of rs) n x) is_new in
    ap (flowing w') s ∙ ap (λ x. flowing x (set (places_of rs) n (Some (met t a (kinds_in old))))) is ∙ sym (ap (thrown_on t r n a (flowing w (places_of rs))) here)
  where
    map-set' : {A B : Type 0} (f : A → B) (l : List A) (i : ℕ) (x : A) → map f (set l i x) ≡ set (map f l) i (f x)
    map-set' f l i x = map-set f l i x

pub thrown_past : (t : Tables) (r : Region) (n : ℕ) (a : Kinds) (rs : List (Option Frame)) (w : Arrived) (m : ℕ) → m ≡ length rs → m ≤ n → record { arrivals = w; regions = places_of rs } ≡ thrown_to t (Some r) n a (record { arrivals = w; regions = places_of rs })
unfolding flowing
thrown_past t r n a rs w m long le =
    let here : slice_get (places_of rs) n ≡ None = slice_get_past (places_of rs) n (subst (λ k. k ≤ n) (long ∙ sym (length-map rs kinds_in)) le) in
    sym (ap (thrown_on t r n a (flowing w (places_of rs))) here)

-- one more place without a frame
pub none_on : (fs fs' : List (Option Frame)) (n : ℕ) → places_of fs ≡ replicate n None → fs' ≡ fs ++ None ∷ [] → places_of fs' ≡ replicate (n + 1) None
none_on fs fs' n e p = ap places_of p ∙ map-append kinds_in fs (None ∷ []) ∙ ap (λ x. x ++ None ∷ []) e ∙ replicate_more n None
