-- What stays so in a run, and drafts that stay right.
use Rattle.std.proofs.Common.{◌≡◌, ℕ, zero, suc, ◌<◌, Bool, true, false, true≢false, List, [], ◌∷◌, ◌++◌, length, nat_eq, arith, ap, refl, sym, ◌∙◌, length-append}
use Rattle.std.specs.Prelude.{Option, Some, None, cond, slice_get}
use Rattle.std.specs.Option.{option_map, option_or}
use Rattle.class_defs.proofs.Positions.{position_snoc, position_step, entry_at}
use Rattle.dalvik_lookups.proofs.Interned.{got_left}
use Rattle.dalvik_defs.specs.Names.{Text}
use Rattle.dalvik_defs.specs.Show.{expose, is_printed, mark_printed, place_in, show, show_at, with_given}
use Rattle.dalvik_defs.specs.State.{World, Thing, Exposed as Seen, kind_of, kind_of_thing}
use Rattle.dalvik_defs.specs.declared.state.Value.{Value}
use Rattle.dalvik_defs.specs.declared.state.Value.TheVariants.{Object}
use Rattle.dalvik_defs.specs.declared.events.Shown.{Shown}
use Rattle.dalvik_defs.specs.declared.events.Shown.TheVariants as shown
use Rattle.dalvik_defs.specs.declared.state.Value.TheVariants as value
use Rattle.dalvik_state.specs.declared.shows.Draft.{Draft}
use Rattle.dalvik_state.specs.declared.shows.Draft.TheVariants as draft
use Rattle.dalvik_state.proofs.Places.{marked_by}
use Rattle.dalvik_state.specs.Drafts.{give_all, IsDraft, IsLater, IsTyped}

abbrev printed_by : List Seen → Option ℕ → Bool
printed_by es o = elim o as (λ o. Bool) [ Some i ↦ is_printed es i | None ↦ false ]

abbrev read_printed : Option Seen → Bool
read_printed o = elim o as (λ o. Bool) [ Some x ↦ x.printed | None ↦ false ]

one_more : (es : List Seen) (e : Seen) (i : ℕ) → is_printed es i ≡ true → is_printed (es ++ e ∷ []) i ≡ true
one_more es e i h = by (slice_get es i) refl
  where
    by : (o : Option Seen) → slice_get es i ≡ o → is_printed (es ++ e ∷ []) i ≡ true
    by None g = absurd (true≢false (sym h ∙ ap read_printed g))
    by (Some x) g = ap read_printed (got_left es (e ∷ []) i x g) ∙ sym (ap read_printed g) ∙ h

-- one more is exposed
more_printed : (es : List Seen) (e : Seen) (x : ℕ) → printed_by es (place_in es x) ≡ true → printed_by (es ++ e ∷ []) (place_in (es ++ e ∷ []) x) ≡ true
more_printed es e x h = ap (printed_by (es ++ e ∷ [])) (position_snoc (λ (y : Seen). nat_eq y.number x) es e) ∙ by (place_in es x) refl
  where
    by : (o : Option ℕ) → place_in es x ≡ o → printed_by (es ++ e ∷ []) (option_or o (cond (nat_eq e.number x) (Some (length es)) None)) ≡ true
    by None g = absurd (true≢false (sym h ∙ ap (printed_by es) g))
    by (Some i) g = one_more es e i (sym (ap (printed_by es) g) ∙ h)

pub later_self : (w : World) → IsLater w w
later_self w = record { longer = omega arith; kinds = λ x l. refl; printed = λ x h. h }

pub later_on : (w u v : World) → IsLater w u → IsLater u v → IsLater w v
later_on w u v f g = record {
  longer = (let a = f.longer in let b = g.longer in omega (arith, a, b));
  kinds = λ x l. (let a = f.longer in g.kinds x (omega (arith, a, l))) ∙ f.kinds x l;
  printed = λ x h. g.printed x (f.printed x h);
}

abbrev read_kind : Option Thing → Text
read_kind o = elim o as (λ o. Text) [ Some t ↦ kind_of_thing t | None ↦ [] ]

-- one more thing is given
pub later_given : (w : World) (t : Thing) → IsLater w (with_given w t)
later_given w t = record {
  longer = (let long = length-append w.heap (t ∷ []) in omega (arith, long));
  kinds = λ x l. (let at = entry_at w.heap x l in ap read_kind (got_left w.heap (t ∷ []) x at.0 at.1) ∙ sym (ap read_kind at.1));
  printed = λ x h. more_printed w.exposed (record { number = length w.heap; printed = false }) x h;
}

pub later_all : (w : World) (ts : List Thing) → IsLater w (give_all w ts)
later_all w [] = later_self w
later_all w (t ∷ ts) = later_on w (with_given w t) (give_all (with_given w t) ts) (later_given w t) (later_all (with_given w t) ts)

-- ---- drafts

typed_later : (w u : World) (x : ℕ) (t : Option Text) → IsLater w u → x < length w.heap → IsTyped w x t → IsTyped u x t
typed_later w u x (Some t) h low is = is ∙ sym (h.kinds x low)
typed_later w u x None h low is = h.printed x is

pub draft_later : (w u : World) (kind : Text) (v : Value) (d : Draft) → IsLater w u → IsDraft w kind v d → IsDraft u kind v d
draft_later w u kind v (draft.Done s) h r = record { drafts = r.drafts }
draft_later w u kind v (draft.Object x t) h r = record {
  drafts = record {
    is = r.drafts.is;
    there = (let a = h.longer in let b = r.drafts.there in omega (arith, a, b));
    typed = typed_later w u x t h r.drafts.there r.drafts.typed;
  };
}

-- ---- an object is shown

marked_place : (n x : ℕ) (es : List Seen) → place_in (mark_printed n es) x ≡ place_in es x
marked_place n x [] = refl
marked_place n x (e ∷ es) = by (marked_place n x es) (nat_eq e.number n)
  where
    by : place_in (mark_printed n es) x ≡ place_in es x → (b : Bool) → place_in (marked_by n e es b) x ≡ place_in (e ∷ es) x
    by more true = position_step (λ (y : Seen). nat_eq y.number x) (record e { printed = true }) es ∙ sym (position_step (λ (y : Seen). nat_eq y.number x) e es)
    by more false =
        position_step (λ (y : Seen). nat_eq y.number x) e (mark_printed n es)
        ∙ ap (λ (o : Option ℕ). cond (nat_eq e.number x) (Some 0) (option_map suc o)) more
        ∙ sym (position_step (λ (y : Seen). nat_eq y.number x) e es)

marked_printed : (n : ℕ) (es : List Seen) (i : ℕ) → is_printed es i ≡ true → is_printed (mark_printed n es) i ≡ true
marked_printed n [] i h = h
marked_printed n (e ∷ es) i h = by (marked_printed n es) (nat_eq e.number n) i h
  where
    by : ((i : ℕ) → is_printed es i ≡ true → is_printed (mark_printed n es) i ≡ true) → (b : Bool) (i : ℕ) → is_printed (e ∷ es) i ≡ true → is_printed (marked_by n e es b) i ≡ true
    by more true zero g = refl
    by more true (suc i) g = g
    by more false zero g = g
    by more false (suc i) g = more i g

pub later_marked : (w : World) (n : ℕ) → IsLater w (record w { exposed = mark_printed n w.exposed })
later_marked w n = record {
  longer = omega arith;
  kinds = λ x l. refl;
  printed = λ x h. ap (printed_by (mark_printed n w.exposed)) (marked_place n x w.exposed) ∙ by x (place_in w.exposed x) h;
}
  where
    by : (x : ℕ) (o : Option ℕ) → printed_by w.exposed o ≡ true → printed_by (mark_printed n w.exposed) o ≡ true
    by x None h = h
    by x (Some i) h = marked_printed n w.exposed i h

later_exposed : (w : World) (n : ℕ) (printed : Bool) → IsLater w (expose w n printed)
later_exposed w n printed = record { longer = omega arith; kinds = λ x l. refl; printed = λ x h. more_printed w.exposed (record { number = n; printed = printed }) x h }

later_shown : (w : World) (n : ℕ) (o : Option ℕ) → IsLater w (show_at w n o).0
later_shown w n None = later_exposed w n true
later_shown w n (Some i) = by (is_printed w.exposed i)
  where
    by : (b : Bool) → IsLater w (elim b as (λ b. World × Shown) [ true ↦ (w, shown.Again i) | false ↦ (record w { exposed = mark_printed n w.exposed }, shown.First i (kind_of w (Object n))) ]).0
    by true = later_self w
    by false = later_marked w n

pub later_show : (w : World) (kind : Text) (v : Value) → IsLater w (show w kind v).0
later_show w kind (value.Word n) = later_self w
later_show w kind (value.Low n) = later_self w
later_show w kind (value.High n) = later_self w
later_show w kind (value.Object n) = later_shown w n (place_in w.exposed n)
later_show w kind (value.Literal t) = later_self w
later_show w kind (value.Class t) = later_self w
