-- What is shown of values that are locked.
use Rattle.std.proofs.Common.{◌≡◌, ℕ, zero, suc, ◌<◌, ◌≤◌, Bool, true, false, List, [], ◌∷◌, length, nat_eq, arith, ap, refl, sym, subst, ◌∙◌, Ok, Err, Result}
use Rattle.std.specs.Prelude.{◌&&◌, cond, IfOk, Option, Some, None, slice_get}
use Rattle.std.specs.Map.{lookup}
use Rattle.std.specs.Option.{option_map, unwrap_or}
use Rattle.dalvik_lookups.specs.Tables.{IsRight}
use Rattle.dalvik_lookups.specs.declared.lookups.Lookups.{Lookups}
use Rattle.dalvik_state.specs.declared.state.State.{State}
use Rattle.dalvik_state.specs.Runs.{world_in}
use Rattle.dalvik_state.specs.States.{IsRunning}
use Rattle.dalvik_state.proofs.Locks.{lock_named}
use Rattle.dalvik_steps.proofs.Locked.{tells_apart}
use Rattle.dalvik_defs.specs.Names.{Text, is_reference}
use Rattle.dalvik_defs.specs.Show.{show, show_word}
use Rattle.dalvik_defs.specs.State.{World as NamedWorld}
use Rattle.dalvik_defs.specs.declared.events.Shown.{Shown}
use Rattle.dalvik_defs.specs.declared.events.Shown.TheVariants as shown
use Rattle.dalvik_defs.specs.declared.state.Value.{Value}
use Rattle.dalvik_defs.specs.declared.state.Value.TheVariants as value
use Rattle.dalvik_state.specs.declared.datum.Datum.{Datum}
use Rattle.dalvik_state.specs.declared.datum.Datum.TheVariants as datum
use Rattle.dalvik_state.specs.declared.shows.Draft.{Draft}
use Rattle.dalvik_state.specs.declared.shows.Draft.TheVariants as draft
use Rattle.dalvik_state.specs.Drafts.{IsDraft}
use Rattle.dalvik_state.specs.Frames.{is_null_in, same_in}
use Rattle.dalvik_state.specs.Views.{names_in, value_of, IsFine, Names}
use Rattle.dalvik_state.specs.Worlds.{kind_in, kind_of_shape, spots_of, Spot}

word_as : (r b : Bool) (m : ℕ) → b ≡ false → elim (r && b) as (λ b. Shown) [ true ↦ shown.Null | false ↦ shown.Word m ] ≡ shown.Word m
word_as true b m e = ap (λ (c : Bool). elim c as (λ b. Shown) [ true ↦ shown.Null | false ↦ shown.Word m ]) e
word_as false b m e = refl

no_object : (spots : List Spot) (x : ℕ) → x < length spots → option_map (λ (s : Spot). kind_of_shape s.shape) (slice_get spots x) ≡ None → ⊥
no_object [] x h e = absurd (omega (arith, h))
no_object (s ∷ ss) zero h e = absurd (cc)
no_object (s ∷ ss) (suc x) h e = no_object ss x (omega (arith, h)) e

-- a number that isn't null is shown as one whatever its type is
pub number_draft : (n : Names) (w : NamedWorld) (t : Text) (spots : List Spot) (d : Datum) (x : Draft) → kind_in spots d ≡ None → IsFine n (length spots) d → is_null_in d ≡ false → IsDraft w t (value_of n d) x → IsDraft w [] (value_of n d) x
number_draft n w t spots (datum.Word m) (draft.Done s) e f z h = record { drafts = λ u. sym (ap (λ (y : Shown). (u, y)) (word_as (is_reference t) (nat_eq m 0) m z)) ∙ h.drafts u }
number_draft n w t spots (datum.Word m) (draft.Object number k) e f z h = absurd (let is = h.drafts.is in cc)
number_draft n w t spots (datum.Low m) (draft.Done s) e f z h = record { drafts = h.drafts }
number_draft n w t spots (datum.Low m) (draft.Object number k) e f z h = absurd (let is = h.drafts.is in cc)
number_draft n w t spots (datum.High m) (draft.Done s) e f z h = record { drafts = h.drafts }
number_draft n w t spots (datum.High m) (draft.Object number k) e f z h = absurd (let is = h.drafts.is in cc)
number_draft n w t spots (datum.Object m) x e f z h = absurd (no_object spots m f e)
number_draft n w t spots (datum.Literal m) x e f z h = absurd (cc)
number_draft n w t spots (datum.Class m) x e f z h = absurd (cc)

pub ok_map : {X E : Type 0} (P Q : X → Type 0) (result : Result X E) → ((x : X) → P x → Q x) → IfOk result P → IfOk result Q
ok_map P Q (Ok x) f h = f x h
ok_map P Q (Err x) f h = h

-- ---- counts

bounded : (test : Datum → Bool) (es : List (Datum × ℕ)) (most : ℕ) → ((i : ℕ) (e : Datum × ℕ) → slice_get es i ≡ Some e → e.1 ≤ most) → unwrap_or (lookup test es) 0 ≤ most
bounded test [] most h = omega arith
bounded test (e ∷ es) most h = by (test e.0) (bounded test es most (λ i x g. h (suc i) x g))
  where
    by : (b : Bool) → unwrap_or (lookup test es) 0 ≤ most → unwrap_or (cond b (Some e.1) (lookup test es)) 0 ≤ most
    by true r = h 0 e refl
    by false r = r

-- how often a value is locked, which is no more often than steps were made
pub record IsCount (l : Lookups) (steps : ℕ) (s : State) (d : Datum) (count : ℕ) : Type 0 where
  pub most : count ≤ steps
  pub named : count ≡ (world_in l s).locks (value_of (names_in l) d)

pub count_of : (l : Lookups) (steps : ℕ) (s : State) (d : Datum) (count : ℕ) → IsRight l → IsRunning l steps s → IsFine (names_in l) (length (spots_of s.world)) d → count ≡ unwrap_or (lookup (λ (k : Datum). same_in k d) s.world.locks.entries) 0 → IsCount l steps s d count
count_of l steps s d count r run fine e = record {
  most = subst (λ (x : ℕ). x ≤ steps) (sym e) (bounded (λ (k : Datum). same_in k d) s.world.locks.entries steps run.held);
  named = e ∙ sym (lock_named (names_in l) (length (spots_of s.world)) (tells_apart l r) d fine s.world.locks.entries run.world.fine.locks);
}
