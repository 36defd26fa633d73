-- What a thrown object meets on its way, by numbers and by names.
use Rattle.std.proofs.Common.{◌≡◌, ℕ, zero, suc, ◌<◌, ◌≤◌, Bool, true, false, true≢false, not, List, [], ◌∷◌, ◌++◌, length, take, arith, ap, refl, sym, subst, ◌∙◌, append_assoc, append-nil, length-append}
use Rattle.std.specs.Prelude.{Option, Some, None, reverse, slice_get}
use Rattle.std.specs.List.{list_all}
use Rattle.std.proofs.lemmas.List.{length-reverse, reverse-append}
use Rattle.class_defs.proofs.WellFormed.{all_at}
use Rattle.class_defs.proofs.Positions.{entry_at}
use Rattle.dalvik_defs.specs.Known.{initialiser_error}
use Rattle.dalvik_defs.specs.Names.{Text, error_type, is_array, throwable_type}
use Rattle.dalvik_defs.specs.Naming.{body_of}
use Rattle.dalvik_defs.specs.Stack.{handler_at}
use Rattle.dalvik_defs.specs.State.{World, Thing, fresh, kind_of, kind_of_thing, next_object, with_thing}
use Rattle.dalvik_defs.specs.declared.state.Value.{Value}
use Rattle.dalvik_lookups.specs.Facing.{run_face}
use Rattle.dalvik_lookups.specs.Tables.{IsRight}
use Rattle.dalvik_lookups.specs.Views.{known_names, name_at, type_text, AreTypes, IsKind}
use Rattle.dalvik_lookups.specs.declared.lookups.Lookups.{Lookups}
use Rattle.dalvik_lookups.specs.declared.types.Kind.{Kind}
use Rattle.dalvik_lookups.specs.declared.types.Types.{Types}
use Rattle.dalvik_lookups.proofs.Descriptors.{known_at, known_kind}
use Rattle.dalvik_lookups.proofs.Interned.{got_left}
use Rattle.dalvik_state.specs.declared.datum.Datum.{Datum}
use Rattle.dalvik_state.specs.declared.frame.Frame.{Frame}
use Rattle.dalvik_state.specs.declared.gifts.Gifts.{Gifts}
use Rattle.dalvik_state.specs.declared.shows.Draft.{Draft}
use Rattle.dalvik_state.specs.declared.state.Waiting.{Waiting}
use Rattle.dalvik_state.specs.declared.state.Waiting.TheVariants as waiting
use Rattle.dalvik_state.specs.declared.world.World.{World as OwnWorld}
use Rattle.dalvik_state.specs.Drafts.{gift_spots, given_world, kind_text, IsDraft, IsLater}
use Rattle.dalvik_state.specs.Effects.{plain}
use Rattle.dalvik_state.specs.Giving.{IsGiven, IsGivenFine}
use Rattle.dalvik_state.specs.Views.{names_in, value_of}
use Rattle.dalvik_state.specs.Worlds.{kind_in}
use Rattle.dalvik_state.proofs.Gifted.{kind_named, kind_there}
use Rattle.dalvik_state.proofs.Later.{draft_later, later_on, later_self}
use Rattle.dalvik_steps.specs.declared.throwing.Course.{Course}
use Rattle.dalvik_steps.specs.declared.throwing.Exhibit.{Exhibit}
use Rattle.dalvik_steps.specs.declared.throwing.Exhibit.TheVariants as exhibit
use Rattle.dalvik_steps.specs.declared.throwing.Flying.{Flying}
use Rattle.dalvik_steps.specs.declared.throwing.Landing.{Landing}
use Rattle.dalvik_steps.specs.declared.throwing.Landing.TheVariants as landing
use Rattle.dalvik_steps.specs.declared.throwing.Met.TheVariants as met
use Rattle.dalvik_steps.proofs.Made.{made_kind}
use Rattle.dalvik_steps.specs.Flights.{lands_at, Exhibits, Flies, IfUnder, IsCourse, IsFlying, IsKindMaybe, IsNewOf, LandsOr, Meets}

-- ---- types that the machine knows

pub error_text : (l : Lookups) → AreTypes l.types → type_text l.types (plain 5) ≡ error_type
error_text l t = known_at l.types t 5 error_type refl

pub throwable_text : (l : Lookups) → AreTypes l.types → type_text l.types (plain 3) ≡ throwable_type
throwable_text l t = known_at l.types t 3 throwable_type refl

pub error_kind : (l : Lookups) → AreTypes l.types → IsKind l.types (plain 5)
error_kind l t = known_kind l.types t 5 error_type refl refl

bare_names : list_all (λ (t : Text). not (is_array t)) known_names ≡ true
bare_names = refl

not_true : (b : Bool) → not b ≡ true → b ≡ false
not_true false e = refl
not_true true e = absurd (true≢false (sym e))

pub plain_kind : (t : Types) → AreTypes t → (n : ℕ) → n < 20 → IsKind t (plain n)
plain_kind t w n low =
    let inside : n < 21 = omega (arith, low) in
    let x = entry_at known_names n inside in
    known_kind t w n x.0 x.1 (not_true (is_array x.0) (all_at (λ (u : Text). not (is_array u)) known_names n x.0 bare_names x.1))

-- ---- objects that are made

abbrev read_kind : Option Thing → Text
read_kind o = elim o as (λ o. Text) [ Some t ↦ kind_of_thing t | None ↦ [] ]

pub later_made : (w : World) (t : Thing) → IsLater w (with_thing w t)
later_made w t = record {
  longer = (let long = length-append w.heap (t ∷ []) in omega (arith, long));
  kinds = λ x low. (let at = entry_at w.heap x low in ap read_kind (got_left w.heap (t ∷ []) x at.0 at.1) ∙ sym (ap read_kind at.1));
  printed = λ x h. h;
}

pub made_new : (w : World) (t : Thing) → IsNewOf (with_thing w t) (next_object w) (kind_of (with_thing w t) (next_object w))
made_new w t = record { number = length w.heap; is = refl; there = (let long = length-append w.heap (t ∷ []) in omega (arith, long)); kind = refl }

-- what flies once a new object of a known type has been made
pub flying_made : (l : Lookups) → IsRight l → (base : OwnWorld) (g : Gifts) (w : World) (class : ℕ) (f : Flying) → class < 20 → IsLater (given_world (names_in l) base g) w → f ≡ record { datum = None; kind = Some (plain class) }
    → IsFlying l base g (with_thing w (fresh (name_at l.types class))) (next_object w) f
flying_made l r base g w class f low later e = subst (IsFlying l base g (with_thing w (fresh (name_at l.types class))) (next_object w)) (sym e) (record {
  value = made_new w (fresh (name_at l.types class));
  kind = sym (made_kind w (name_at l.types class));
  known = plain_kind l.types r.tabled.named.types class low;
  later = later_on (given_world (names_in l) base g) w (with_thing w (fresh (name_at l.types class))) later (later_made w (fresh (name_at l.types class)));
})

-- ---- what is thrown at first

kind_maybe : (l : Lookups) (g : OwnWorld) (h : Gifts) (d : Datum) (o : Option Kind) → IsRight l → IsGiven l g h → kind_in (gift_spots g h) d ≡ o → IsKindMaybe l o
kind_maybe l g h d None r i e = tt
kind_maybe l g h d (Some k) r i e = kind_there l (gift_spots g h) d k r.tabled.named.types i.kinds e

pub flying_value : (l : Lookups) → IsRight l → (base : OwnWorld) (g : Gifts) (d : Datum) (f : Flying) → IsGiven l base g → IsGivenFine l base g d → f ≡ record { datum = Some d; kind = kind_in (gift_spots base g) d }
    → IsFlying l base g (given_world (names_in l) base g) (value_of (names_in l) d) f
flying_value l r base g d f i fine e = subst (IsFlying l base g (given_world (names_in l) base g) (value_of (names_in l) d)) (sym e) (record {
  value = (refl, fine);
  kind = sym (kind_named l base g d r.tabled.named.types i.kinds);
  known = kind_maybe l base g d (kind_in (gift_spots base g) d) r i refl;
  later = later_self (given_world (names_in l) base g);
})

-- ---- what is met

pub lands_same : (l : Lookups) (w : World) (v : Value) (f : Frame) (kind : Option Kind) (o : Option ℕ) → kind_text l kind ≡ kind_of w v → o ≡ handler_at ((run_face l).under (kind_text l kind)) f.position (body_of l.program.now f.body.now) → lands_at l w v f ≡ o
lands_same l w v f kind o e h = sym (h ∙ ap (λ (t : Text). handler_at ((run_face l).under t) f.position (body_of l.program.now f.body.now)) e)

pub meets_handler : (l : Lookups) (w : World) (v : Value) (f : Frame) (place at : ℕ) → lands_at l w v f ≡ Some at → Meets l w v (waiting.Method f) place (met.Lands (landing.Handler place at))
meets_handler l w v f place at h = λ rest e. subst (λ (o : Option ℕ). LandsOr (length rest) [] (landing.Handler place at) o (Flies l w v rest [] (landing.Handler place at))) (sym h) (refl, ap (λ (k : ℕ). landing.Handler k at) (sym e))

pub meets_none : (l : Lookups) (w : World) (v : Value) (f : Frame) (place : ℕ) → lands_at l w v f ≡ None → Meets l w v (waiting.Method f) place met.Passes
meets_none l w v f place h = λ rest wraps to e fl. subst (λ (o : Option ℕ). LandsOr (length rest) wraps to o (Flies l w v rest wraps to)) (sym h) fl

abbrev Wraps : Lookups → World → List Waiting → List ℕ → Landing → Type 0
Wraps l w rest wraps to = (more : List ℕ) × ((wraps ≡ length rest ∷ more) × Flies l (with_thing w (fresh initialiser_error)) (next_object w) rest more to)

pub under_same : (l : Lookups) → IsRight l → (w : World) (v : Value) (kind : Option Kind) (b c : Bool) → kind_text l kind ≡ kind_of w v → b ≡ (run_face l).under (kind_text l kind) (type_text l.types (plain 5)) → b ≡ c → (run_face l).under (kind_of w v) error_type ≡ c
under_same l r w v kind b c e h same = sym (h ∙ (λ i. (run_face l).under (e i) (error_text l r.tabled.named.types i))) ∙ same

pub meets_under : (l : Lookups) (w : World) (v : Value) (class place : ℕ) → (run_face l).under (kind_of w v) error_type ≡ true → Meets l w v (waiting.Ending class) place met.Passes
meets_under l w v class place h = λ rest wraps to e fl. subst (λ (b : Bool). IfUnder b (Flies l w v rest wraps to) (Wraps l w rest wraps to)) (sym h) fl

pub meets_other : (l : Lookups) (w : World) (v : Value) (class place : ℕ) → (run_face l).under (kind_of w v) error_type ≡ false → Meets l w v (waiting.Ending class) place met.Wrapped
meets_other l w v class place h = λ rest more to e fl.
    subst (λ (b : Bool). IfUnder b (Flies l w v rest (place ∷ more) to) (Wraps l w rest (place ∷ more) to)) (sym h) (more, (ap (λ (k : ℕ). k ∷ more) (sym e), fl))

pub meets_framework : (l : Lookups) (w : World) (v : Value) (owes : Option Kind) (pending : Option ℕ) (place : ℕ) (shown : Exhibit) → Exhibits w v shown → Meets l w v (waiting.Outside owes pending) place (met.Lands (landing.Framework place shown))
meets_framework l w v owes pending place shown x = λ rest e. (refl, (shown, (ap (λ (k : ℕ). landing.Framework k shown) (sym e), x)))

-- what is drafted of a value that flies is shown in the world that comes after
pub exhibits_old : (l : Lookups) → IsRight l → (base : OwnWorld) (g : Gifts) (w : World) (v : Value) (d : Datum) (kind : Kind) (draft : Draft) → v ≡ value_of (names_in l) d → IsLater (given_world (names_in l) base g) w → kind ≡ plain 3
    → IsDraft (given_world (names_in l) base g) (type_text l.types kind) (value_of (names_in l) d) draft → Exhibits w v (exhibit.Old draft)
exhibits_old l r base g w v d kind draft is later k h =
    let text : type_text l.types kind ≡ throwable_type = ap (type_text l.types) k ∙ throwable_text l r.tabled.named.types in
    draft_later (given_world (names_in l) base g) w throwable_type v draft later
    (subst (λ (u : Value). IsDraft (given_world (names_in l) base g) throwable_type u draft) (sym is)
    (subst (λ (t : Text). IsDraft (given_world (names_in l) base g) t (value_of (names_in l) d) draft) text h))

-- ---- the course

pub course_on : (l : Lookups) (base : OwnWorld) (g : Gifts) (w : World) (v : Value) (all rest : List Waiting) (x : Waiting) (place : ℕ) (c : Course) → (h : IsCourse l base g w v all (x ∷ rest) c) → length rest ≡ place → Meets l h.world h.value x place met.Passes → IsCourse l base g w v all rest c
course_on l base g w v all rest x place c h e m = record { world = h.world; value = h.value; flying = h.flying; on = λ more to fl. h.on more to (m rest more to e fl) }

pub course_lands : (l : Lookups) (base : OwnWorld) (g : Gifts) (w : World) (v : Value) (all rest : List Waiting) (x : Waiting) (place : ℕ) (to : Landing) (c : Course) → (h : IsCourse l base g w v all (x ∷ rest) c) → length rest ≡ place → Meets l h.world h.value x place (met.Lands to) → Flies l w v all c.wraps.items to
course_lands l base g w v all rest x place to c h e m = subst (λ (ws : List ℕ). Flies l w v all ws to) (append-nil c.wraps.items) (h.on [] to (m rest e))

pub course_wraps : (l : Lookups) → IsRight l → (base : OwnWorld) (g : Gifts) (w : World) (v : Value) (all rest : List Waiting) (x : Waiting) (place : ℕ) (c d : Course) → (h : IsCourse l base g w v all (x ∷ rest) c) → length rest ≡ place → Meets l h.world h.value x place met.Wrapped
    → d.wraps.items ≡ c.wraps.items ++ place ∷ [] → d.flying ≡ record { datum = None; kind = Some (plain 16) } → IsCourse l base g w v all rest d
course_wraps l r base g w v all rest x place c d h e m is fly =
    let name : name_at l.types 16 ≡ initialiser_error = known_at l.types r.tabled.named.types 16 initialiser_error refl in
    let made = flying_made l r base g h.world 16 d.flying (omega arith) h.flying.later fly in
    record {
      world = with_thing h.world (fresh initialiser_error);
      value = next_object h.world;
      flying = subst (λ (t : Text). IsFlying l base g (with_thing h.world (fresh t)) (next_object h.world) d.flying) name made;
      on = λ more to fl.
          let joined : c.wraps.items ++ (place ∷ more) ≡ d.wraps.items ++ more = sym (ap (λ (ws : List ℕ). ws ++ more) is ∙ append_assoc c.wraps.items (place ∷ []) more) in
          subst (λ (ws : List ℕ). Flies l w v all ws to) joined (h.on (place ∷ more) to (m rest more to e fl));
    }

-- the stack above a place, top first
take_more : (xs : List Waiting) (k : ℕ) (x : Waiting) → slice_get xs k ≡ Some x → take (suc k) xs ≡ take k xs ++ x ∷ []
take_more [] k x e = absurd (cc)
take_more (y ∷ ys) zero x e = let same : y ≡ x = cc in ap (λ (z : Waiting). z ∷ []) same
take_more (y ∷ ys) (suc k) x e = ap (λ (zs : List Waiting). y ∷ zs) (take_more ys k x e)

pub reverse_taken : (xs : List Waiting) (k : ℕ) (x : Waiting) → slice_get xs k ≡ Some x → reverse (take (suc k) xs) ≡ x ∷ reverse (take k xs)
reverse_taken xs k x e = ap reverse (take_more xs k x e) ∙ reverse-append (take k xs) (x ∷ [])

taken_long : (xs : List Waiting) (k : ℕ) → k ≤ length xs → length (take k xs) ≡ k
taken_long xs zero h = refl
taken_long [] (suc k) h = absurd (omega arith)
taken_long (x ∷ xs) (suc k) h = ap suc (taken_long xs k (omega arith))

pub reverse_long : (xs : List Waiting) (k : ℕ) → k ≤ length xs → length (reverse (take k xs)) ≡ k
reverse_long xs k h = length-reverse (take k xs) ∙ taken_long xs k h

-- the course goes down the stack
pub course_next : (l : Lookups) (base : OwnWorld) (g : Gifts) (w : World) (v : Value) (all xs : List Waiting) (k at : ℕ) (x : Waiting) (c : Course) → slice_get xs at ≡ Some x → k ≡ suc at → IsCourse l base g w v all (reverse (take k xs)) c → IsCourse l base g w v all (x ∷ reverse (take at xs)) c
course_next l base g w v all xs k at x c got e h = subst (λ (rest : List Waiting). IsCourse l base g w v all rest c) (ap (λ (n : ℕ). reverse (take n xs)) e ∙ reverse_taken xs at x got) h

-- nothing is left of it
pub course_ends : (l : Lookups) (base : OwnWorld) (g : Gifts) (w : World) (v : Value) (all rest : List Waiting) (c : Course) → rest ≡ [] → IsCourse l base g w v all rest c → Flies l w v all c.wraps.items landing.Nowhere
course_ends l base g w v all rest c e h =
    subst (λ (ws : List ℕ). Flies l w v all ws landing.Nowhere) (append-nil c.wraps.items)
    (h.on [] landing.Nowhere (subst (λ (r : List Waiting). Flies l h.world h.value r [] landing.Nowhere) (sym e) (refl, refl)))
