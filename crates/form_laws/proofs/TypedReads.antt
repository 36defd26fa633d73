-- A typing stays one where each form reads other registers of the same kinds.
use Rattle.std.proofs.Common.{◌≡◌, ℕ, zero, suc, Bool, true, List, [], ◌∷◌, ◌++◌, length, Option, Some, None, refl, sym, ap, ap₂, ◌∙◌, subst}
use Rattle.std.specs.Prelude.{◌&&◌, ◌||◌, map, not, nat_eq, if◌then◌else◌, is_some, slice_get, Contains}
use Rattle.std.specs.List.{list_all}
use Rattle.lemmas.proofs.Bools.{and_left}
use Rattle.dalvik_defs.specs.declared.forms.Form.{Form}
use Rattle.dalvik_defs.specs.declared.forms.Form.TheVariants as form
use Rattle.dalvik_defs.specs.declared.program.NamedBody.{NamedBody}
use Rattle.dalvik_defs.specs.declared.program.NamedClass.{NamedClass}
use Rattle.dalvik_defs.specs.declared.program.NamedMethod.{NamedMethod}
use Rattle.dalvik_defs.specs.declared.program.NamedProgram.{NamedProgram}
use Rattle.pass_defs.specs.Bare.{may_throw, continues, targets}
use Rattle.pass_defs.specs.Walks.{form_at, region_at, next_position, onward}
use Rattle.pass_defs.specs.Kinds.{kind_of}
use Rattle.pass_defs.specs.Registers.{Kinds, written, state_below}
use Rattle.pass_defs.specs.Remade.{remade}
use Rattle.pass_defs.specs.Demands.{is_constructor_name, is_allowed}
use Rattle.pass_defs.specs.Typed.{is_static_call, constructed, Table, state_at, at_state, each, arrives, after, moved, got, is_wrong, passed_words, wrong_method, wrong_super, catches_in, edges, begun, IsTyping, IsTyped}
use Rattle.program_laws.specs.Bodies.{Change, changed}
use Rattle.program_laws.proofs.Moved.{moved_typed}
use Rattle.form_laws.proofs.Demanded.{allowed_named, and_behind}
use Rattle.form_laws.proofs.Onward.{clash}
use Rattle.form_laws.specs.Copied.{ReadsOriginals}
use Rattle.form_laws.specs.TypedCopies.{Leaves, SameAt, AllReadAlike}

module _ (r : ℕ → ℕ) where
  abbrev pub reading : Form → Form
  reading f = remade r (λ x. x) (λ x. x) f

  length_map : (xs : List ℕ) → length (map r xs) ≡ length xs
  length_map [] = refl
  length_map (x ∷ xs) = ap suc (length_map xs)

  same_list : (xs : List ℕ) → map (λ x. x) xs ≡ xs
  same_list [] = refl
  same_list (x ∷ xs) = ap (λ l. x ∷ l) (same_list xs)

  same_continues : (f : Form) → continues (reading f) ≡ continues f
  same_continues form.Nop = refl
  same_continues f = refl

  same_throws : (f : Form) → may_throw (reading f) ≡ may_throw f
  same_throws form.Nop = refl
  same_throws f = refl

  same_targets : (f : Form) → targets (reading f) ≡ targets f
  same_targets (form.PackedSwitch on first ts) = same_list ts
  same_targets (form.SparseSwitch on keys ts) = same_list ts
  same_targets f = refl

  same_onward : (f : Form) (n : ℕ) → onward (reading f) n ≡ onward f n
  same_onward f n = ap₂ (λ b ts. next_position b n ++ ts) (same_continues f) (same_targets f)

  module _ (p : NamedProgram) (c : NamedClass) (m : NamedMethod) where
    same_wrong : (a : Kinds) (f : Form) → is_wrong p c m a (reading f) ≡ is_wrong p c m a f
    same_wrong a (form.Invoke kind method args) = ap (λ n. wrong_method p kind method || wrong_super p c kind method || not (nat_eq n (passed_words kind method))) (length_map args)
    same_wrong a f = refl

    same_after : (n : ℕ) (a : Kinds) (f : Form) → Leaves r a f → after p c n (reading f) a ≡ after p c n f a
    same_after n a (form.Move slot to from) h = ap (λ k. written to (moved slot k) a) h
    same_after n a (form.ArrayGet item to array index) h = ap (λ k. written to (got p item k) a) h
    same_after n a (form.Invoke kind method args) h =
        ap (λ k. let b : Kinds = if is_constructor_name method.name && not (is_static_call kind) then constructed p c k a else a in record b { result = kind_of p method.signature.result }) h
    same_after n a (form.CheckCast on kind) h = ap (λ x. after p c n (form.CheckCast x kind) a) h
    same_after n a f h = refl

each_more : (n : ℕ) (f g : ℕ → Bool) → ((i : ℕ) → f i ≡ true → g i ≡ true) → each n f ≡ true → each n g ≡ true
each_more zero f g h e = refl
each_more (suc n) f g h e = ap₂ (λ a b. a && b) (each_more n f g h (and_left (each n f) (f n) e)) (h n (and_behind (each n f) (f n) e))

-- lists that end at one place
same_long : {A : Type 0} (xs ys : List A) → ((n : ℕ) → is_some (slice_get ys n) ≡ is_some (slice_get xs n)) → length ys ≡ length xs
same_long [] [] h = refl
same_long [] (y ∷ ys) h = clash true refl (h 0)
same_long (x ∷ xs) [] h = clash true refl (sym (h 0))
same_long (x ∷ xs) (y ∷ ys) h = ap suc (same_long xs ys (λ n. h (suc n)))

module _ (p : NamedProgram) (c : NamedClass) (m : NamedMethod) (b d : NamedBody) (t : Table) (alike : ReadsOriginals b d)
    (kinds : (n : ℕ) (f : Form) (a : Kinds) → form_at b n ≡ Some f → state_at t n ≡ Some a → SameAt p c m (alike.new n) a f) where
  abbrev new : ℕ → ℕ → ℕ
  new = alike.new

  long : length d.forms ≡ length b.forms
  long = same_long b.forms d.forms (λ n. there n (form_at b n) refl)
    where
      there : (n : ℕ) (o : Option Form) → form_at b n ≡ o → is_some (form_at d n) ≡ is_some o
      there n None e = ap is_some (alike.ends n e)
      there n (Some f) e = ap is_some (alike.forms n f e)

  -- a test of the old form is a test of the new one
  tested : (test test' : Form → Kinds → Bool) (n : ℕ) → ((f : Form) (a : Kinds) → form_at b n ≡ Some f → state_at t n ≡ Some a → test f a ≡ true → test' (reading (new n) f) a ≡ true)
      → at_state b t test n ≡ true → at_state d t test' n ≡ true
  tested test test' n h e = by (form_at b n) refl e
    where
      state : (f : Form) (o : Option Kinds) → form_at b n ≡ Some f → state_at t n ≡ o → (elim o as (λ o. Bool) [ Some a ↦ test f a | None ↦ true ]) ≡ true
          → (elim o as (λ o. Bool) [ Some a ↦ test' (reading (new n) f) a | None ↦ true ]) ≡ true
      state f None i j e = refl
      state f (Some a) i j e = h f a i j e

      by : (o : Option Form) → form_at b n ≡ o → (elim o as (λ o. Bool) [ Some f ↦ elim (state_at t n) as (λ s. Bool) [ Some a ↦ test f a | None ↦ true ] | None ↦ true ]) ≡ true → at_state d t test' n ≡ true
      by None i e = ap (λ o. elim o as (λ o. Bool) [ Some f ↦ elim (state_at t n) as (λ s. Bool) [ Some a ↦ test' f a | None ↦ true ] | None ↦ true ]) (alike.ends n i)
      by (Some f) i e = ap (λ o. elim o as (λ o. Bool) [ Some f ↦ elim (state_at t n) as (λ s. Bool) [ Some a ↦ test' f a | None ↦ true ] | None ↦ true ]) (alike.forms n f i) ∙ state f (state_at t n) i refl e

  same_edges : (n : ℕ) (f : Form) (a : Kinds) → Leaves (new n) a f → edges p c d n (reading (new n) f) a ≡ edges p c b n f a
  same_edges n f a h = ap₂ (λ xs ys. xs ++ ys)
      (ap₂ (λ k qs. map (λ q. (q, k)) qs) (same_after (new n) p c m n a f h) (same_onward (new n) f n))
      (ap₂ (λ z rs. map (λ h. (h.0, record a { caught = h.1 })) (if z then catches_in p (region_at (record d { regions = rs }) n) else [])) (same_throws (new n) f) alike.regions)

  same_begun : begun p c m d ≡ begun p c m b
  same_begun = ap₂ (λ y z. begun p c m (record b { registers = y; ins = z })) alike.registers alike.ins

  pub typed_reads : IsTyping p c m b t → IsTyping p c m d t
  typed_reads typing = record {
    long = typing.long ∙ sym long;
    entry = ap (λ a. state_below p (Some a) (state_at t 0)) same_begun ∙ typing.entry;
    reads = subst (λ l. each l (at_state d t (λ f a. is_allowed p c m a f)) ≡ true) (sym long)
        (each_more (length b.forms) (at_state b t (λ f a. is_allowed p c m a f)) (at_state d t (λ f a. is_allowed p c m a f))
        (λ n. tested (λ f a. is_allowed p c m a f) (λ f a. is_allowed p c m a f) n (λ f a i j e. let k = kinds n f a i j in allowed_named p c m (new n) (λ x. x) (λ x. x) a a f refl refl k.first k.asked e)) typing.reads);
    right = subst (λ l. each l (at_state d t (λ f a. not (is_wrong p c m a f))) ≡ true) (sym long)
        (each_more (length b.forms) (at_state b t (λ f a. not (is_wrong p c m a f))) (at_state d t (λ f a. not (is_wrong p c m a f)))
        (λ n. tested (λ f a. not (is_wrong p c m a f)) (λ f a. not (is_wrong p c m a f)) n (λ f a i j e. ap not (same_wrong (new n) p c m a f) ∙ e)) typing.right);
    edges = subst (λ l. each l (λ n. at_state d t (λ f a. list_all (arrives p t) (edges p c d n f a)) n) ≡ true) (sym long)
        (each_more (length b.forms) (λ n. at_state b t (λ f a. list_all (arrives p t) (edges p c b n f a)) n) (λ n. at_state d t (λ f a. list_all (arrives p t) (edges p c d n f a)) n)
        (λ n. tested (λ f a. list_all (arrives p t) (edges p c b n f a)) (λ f a. list_all (arrives p t) (edges p c d n f a)) n
        (λ f a i j e. ap (list_all (arrives p t)) (same_edges n f a (kinds n f a i j).leaves) ∙ e)) typing.edges);
  }

pub copied_typed : (p : NamedProgram) (new : Change) → AllReadAlike new p → IsTyped (changed new p)
copied_typed p new all = moved_typed new all.code p (λ c m d i j e. at c m d i j e m.body refl)
  where
    at : (c : NamedClass) (m : NamedMethod) (d : NamedBody) → Contains p.classes c → Contains c.methods m → (new c m).body ≡ Some d → (o : Option NamedBody) → m.body ≡ o → (t : Table) × IsTyping p c m d t
    at c m d i j e None x = clash true refl (sym (ap is_some e) ∙ all.code c m ∙ ap is_some x)
    at c m d i j e (Some b) x = let h = all.bodies c m b d i j x e in (h.table, typed_reads p c m b d h.table h.reads h.kinds h.typing)
