-- A body that has other registers has a typing where the body has one, and so a program that has them is typed.
use Rattle.std.proofs.Common.{◌≡◌, ℕ, zero, suc, ◌+◌, ◌-◌, ◌<◌, Bool, true, false, List, [], ◌∷◌, ◌++◌, length, Option, Some, None, refl, sym, ap, ap₂, ◌∙◌, subst, inl, inr, arith}
use Rattle.std.specs.Prelude.{◌⊎◌, ◌&&◌, ◌||◌, not, nat_eq, map, if◌then◌else◌, replicate, slice_get, is_some, Contains}
use Rattle.std.specs.List.{list_all}
use Rattle.std.specs.Option.{option_map}
use Rattle.std.proofs.lemmas.List.{length-append, length-replicate}
use Rattle.lemmas.proofs.Bools.{or_left}
use Rattle.lemmas.proofs.Lists.{all_append, get_map, map_long}
use Rattle.dalvik_defs.specs.declared.forms.Form.{Form}
use Rattle.dalvik_defs.specs.declared.forms.Form.TheVariants as form
use Rattle.dalvik_defs.specs.declared.program.NamedBody.{NamedBody}
use Rattle.dalvik_defs.specs.declared.program.NamedClass.{NamedClass}
use Rattle.dalvik_defs.specs.declared.program.NamedMethod.{NamedMethod}
use Rattle.dalvik_defs.specs.declared.program.NamedProgram.{NamedProgram}
use Rattle.pass_defs.specs.Bare.{reads, writes, may_throw, continues, targets}
use Rattle.pass_defs.specs.Remade.{remade}
use Rattle.pass_defs.specs.Walks.{form_at, region_at, next_position, onward, caught, successors, Walk, IsReached}
use Rattle.pass_defs.specs.Kinds.{Kind, Undefined, is_below}
use Rattle.pass_defs.specs.Registers.{Kinds, kind_at, all_below, kinds_below, state_below}
use Rattle.pass_defs.specs.Demands.{is_allowed}
use Rattle.pass_defs.specs.Typed.{argument_kinds, begun, after, wrong_method, wrong_super, passed_words, is_wrong, catches_in, catches, edges, Table, state_at, at_state, arrives, IsTyping, IsTyped}
use Rattle.pass_defs.specs.Packed.{wides_written, wides_read, locals}
use Rattle.program_laws.specs.Bodies.{Change, changed}
use Rattle.program_laws.proofs.Moved.{moved_typed}
use Rattle.form_laws.specs.Changes.{In, destination}
use Rattle.form_laws.proofs.Uses.{or_right, writes_at}
use Rattle.form_laws.proofs.Onward.{clash, contained, in_front, in_back, walk_on}
use Rattle.form_laws.specs.Kinds.{Held}
use Rattle.form_laws.specs.TypedRegisters.{selected, listed, renamed_kinds, renamed_from, IsTypedRenamed, AllTypedRenamed}
use Rattle.form_laws.proofs.Held.{is_known, whole_known, fewer}
use Rattle.form_laws.proofs.Selecting.{known_below, each_below, as_long, listed_long, held_selected, below_selected}
use Rattle.form_laws.proofs.Sequences.{in_contains, split_in, all_map, all_each}
use Rattle.form_laws.proofs.Held.{known_above}
use Rattle.form_laws.proofs.Asking.{allowed_held}
use Rattle.form_laws.proofs.Typings.{allowed_at, right_at}
use Rattle.form_laws.proofs.Asked.{any_front, any_back, pair_written}
use Rattle.form_laws.proofs.Stepping.{Before, After, stepped}
use Rattle.form_laws.proofs.Apart.{all_apart, apart_all, all_are_apart}
use Rattle.form_laws.proofs.Arriving.{onward_arrives, catch_arrives, At, first_below, catch_caught, live_onward, live_caught, live_read, names_apart, goes_on, goes_caught}
use Rattle.form_laws.proofs.Reading.{reads_some}

four : (w x y z : Bool) → (w && x && y && z) ≡ true → (w ≡ true) × ((x ≡ true) × ((y ≡ true) × (z ≡ true)))
four true true true true e = (refl, (refl, (refl, refl)))
four false x y z e = clash false e refl
four true false y z e = clash false e refl
four true true false z e = clash false e refl
four true true true false e = clash false e refl

four_true : (w x y z : Bool) → w ≡ true → x ≡ true → y ≡ true → z ≡ true → (w && x && y && z) ≡ true
four_true true true true true d e f g = refl
four_true false x y z d e f g = clash false d refl
four_true true false y z d e f g = clash false e refl
four_true true true false z d e f g = clash false f refl
four_true true true true false d e f g = clash false g refl

-- ---- the form itself

same_list : (xs : List ℕ) → map (λ x. x) xs ≡ xs
same_list [] = refl
same_list (x ∷ xs) = ap (λ l. x ∷ l) (same_list xs)

module _ (new : ℕ → ℕ) where
  abbrev named : Form → Form
  named f = remade new new (λ t. t) f

  same_continues : (f : Form) → continues (named f) ≡ continues f
  same_continues form.Nop = refl
  same_continues f = refl

  same_throws : (f : Form) → may_throw (named f) ≡ may_throw f
  same_throws form.Nop = refl
  same_throws f = refl

  same_targets : (f : Form) → targets (named f) ≡ targets f
  same_targets (form.PackedSwitch on first ts) = same_list ts
  same_targets (form.SparseSwitch on keys ts) = same_list ts
  same_targets f = refl

  same_onward : (f : Form) (n : ℕ) → onward (named f) n ≡ onward f n
  same_onward f n = ap₂ (λ b ts. next_position b n ++ ts) (same_continues f) (same_targets f)

  same_wrong : (p : NamedProgram) (c : NamedClass) (m : NamedMethod) (a a' : Kinds) (f : Form) → a'.receiver ≡ a.receiver → is_wrong p c m a' (named f) ≡ is_wrong p c m a f
  same_wrong p c m a a' (form.Invoke kind method args) e = ap (λ n. wrong_method p kind method || wrong_super p c kind method || not (nat_eq n (passed_words kind method))) (map_long new args)
  same_wrong p c m a a' form.ReturnVoid e = ap (λ k. is_wrong p c m (record a { receiver = k }) form.ReturnVoid) e
  same_wrong p c m a a' (form.Return slot from) e = ap (λ k. is_wrong p c m (record a { receiver = k }) (form.Return slot from)) e
  same_wrong p c m a a' f e = refl

-- ---- the entry

zeros_known : (k o : ℕ) (args : List Kind) → is_known (kind_at (replicate k Undefined ++ args) o) ≡ true → (i : ℕ) × ((o ≡ k + i) × (i < length args))
zeros_known zero o args e = (o, (omega arith, known_below args o e))
zeros_known (suc k) zero args e = clash false e refl
zeros_known (suc k) (suc o) args e = let r = zeros_known k o args e in let z = r.1.0 in (r.0, (omega (arith, z), r.1.1))

zeros_behind : (k i : ℕ) (args : List Kind) → kind_at (replicate k Undefined ++ args) (k + i) ≡ kind_at args i
zeros_behind zero i args = ap (kind_at args) (omega arith)
zeros_behind (suc k) i args = let e : suc (k + i) ≡ suc k + i = omega arith in subst (λ j. kind_at (replicate (suc k) Undefined ++ args) j ≡ kind_at args i) e (zeros_behind k i args)

module _ (p : NamedProgram) (c : NamedClass) (m : NamedMethod) (b d : NamedBody) (h : IsTypedRenamed p c m b d) where
  abbrev t : Table
  t = h.table

  abbrev new : ℕ → ℕ
  new = h.new

  abbrev live : ℕ → ℕ → Bool
  live = h.marks.live

  abbrev size : ℕ
  size = (d.registers - d.ins) + d.ins

  -- the positions whose kinds are told apart
  abbrev apart : ℕ → Bool
  apart n = all_apart new (live n) ((b.registers - b.ins) + b.ins) (state_at t n)

  abbrev renewed : ℕ → Kinds → Kinds
  renewed n a = renamed_kinds new (live n) size a

  abbrev pub table : Table
  table = renamed_from new live apart size 0 t

  abbrev state_if : Bool → ℕ → Option Kinds → Option Kinds
  state_if b n o = if b then option_map (renewed n) o else None

  table_from : (t : Table) (k i : ℕ) → state_at (renamed_from new live apart size k t) i ≡ state_if (apart (k + i)) (k + i) (state_at t i)
  table_from [] k i = by (apart (k + i))
    where
      by : (v : Bool) → None ≡ state_if v (k + i) None
      by true = refl
      by false = refl
  table_from (o ∷ t) k zero = ap (λ j. state_if (apart j) j o) (omega arith)
  table_from (o ∷ t) k (suc i) = table_from t (k + 1) i ∙ ap (λ j. state_if (apart j) j (state_at t i)) (omega arith)

  table_at : (n : ℕ) → state_at table n ≡ state_if (apart n) n (state_at t n)
  table_at n = table_from t 0 n ∙ ap (λ j. state_if (apart j) j (state_at t n)) (omega arith)

  apart_of : (n : ℕ) (a : Kinds) → At p c m b d h n a → state_at t n ≡ Some a → apart n ≡ true
  apart_of n a at e = ap (all_apart new (live n) ((b.registers - b.ins) + b.ins)) e ∙ apart_all new (live n) ((b.registers - b.ins) + b.ins) a at.long at.unique

  at_of : (n : ℕ) (a : Kinds) → apart n ≡ true → state_at t n ≡ Some a → At p c m b d h n a
  at_of n a v e = let r = all_are_apart new (live n) ((b.registers - b.ins) + b.ins) a (sym (ap (all_apart new (live n) ((b.registers - b.ins) + b.ins)) e) ∙ v) in record { long = r.0; unique = r.1 }

  there_at : (n : ℕ) (a : Kinds) → At p c m b d h n a → state_at t n ≡ Some a → state_at table n ≡ Some (renewed n a)
  there_at n a at e = table_at n ∙ ap₂ (λ v o. state_if v n o) (apart_of n a at e) e

  long_table : (t : Table) (k : ℕ) → length (renamed_from new live apart size k t) ≡ length t
  long_table [] k = refl
  long_table (o ∷ t) k = ap suc (long_table t (k + 1))

  form_there : (n : ℕ) → form_at d n ≡ option_map (named new) (form_at b n)
  form_there n = ap (λ fs. slice_get fs n) h.renamed.forms ∙ get_map (named new) b.forms n

  -- ---- one position

  room_of : (n o : ℕ) → live n o ≡ true → new o < size
  room_of n o l =
      let r = (h.marks.is_live n o).0 l in
      let u = reads_some b o n r.0 r.1 in
      let lt = h.renamed.room u.0 u.1.0 o u.1.1.0 (or_left (reads u.1.0 o) (writes u.1.0 o) u.1.1.1) in omega (arith, lt)

  held_at : (n : ℕ) (a : Kinds) → At p c m b d h n a → Held new (live n) a.registers (renewed n a).registers
  held_at n a at = held_selected new (live n) a.registers at.unique size (room_of n)

  module _ (n : ℕ) (f : Form) (a : Kinds) (x : form_at b n ≡ Some f) (y : state_at t n ≡ Some a) (at : At p c m b d h n a) where
    allowed : is_allowed p c m a f ≡ true
    allowed = allowed_at p c m b t h.typing n f a x y

    right : is_wrong p c m a f ≡ false
    right = right_at p c m b t h.typing n f a x y

    -- the registers of a form are there
    there_room : (r : ℕ) → reads f r ≡ true ⊎ writes f r ≡ true → (r < length a.registers) × (new r < length (renewed n a).registers)
    there_room r u =
        let used : (reads f r || writes f r) ≡ true = elim u [ inl e ↦ or_left (reads f r) (writes f r) e | inr e ↦ or_right (reads f r) (writes f r) e ] in
        let o = h.solid.room n f r x used in let q = h.renamed.room n f r x used in
        let l = at.long in let l' = listed_long size 0 (selected new (live n) a.registers) in
        (omega (arith, o, l), omega (arith, q, l'))

    before : (q : ℕ) → In q (onward f n) → Before p c m n new a (renewed n a) (live n) (live q) f
    before q i = record {
      held = held_at n a at;
      unique = at.unique;
      result = refl;
      caught = refl;
      receiver = refl;
      unwritten = λ o l w. (live_onward p c m b d h n q o f x i w l, λ j lt e. clash (writes f o) (ap (writes f) (sym (names_apart p c m b d h n q o (destination f + j) f x i (writes_at f j lt) l (sym e))) ∙ writes_at f j lt) w);
      side = λ e. h.renamed.pairs n f (destination f) x (any_front (destination f) (wides_written f) (wides_read f) (pair_written f e));
      used = λ o r. live_read p c m b d h n o f x r;
      room = λ j lt. there_room (destination f + j) (inr (writes_at f j lt));
      read_room = λ o r. there_room o (inl r);
      allowed = allowed;
      right = right;
      class = h.class;
      calls = λ kind k args e. h.calls n (form.Invoke kind k args) (x ∙ ap Some e);
    }

    behind : (q : ℕ) → In q (onward f n) → After p c m n new a (renewed n a) (live n) (live q) f
    behind q i = stepped p c m n new a (renewed n a) (live n) (live q) f (before q i)

  -- ---- the entry

  abbrev first : Kinds
  first = begun p c m b

  abbrev first' : Kinds
  first' = begun p c m d

  abbrev arguments : List Kind
  arguments = argument_kinds p c m

  -- a register that is known at the entry is an argument
  argument : (o : ℕ) → live 0 o ≡ true → is_known (kind_at first.registers o) ≡ true → (i : ℕ) × ((o ≡ locals b + i) × (new o ≡ locals d + i))
  argument o l k =
      let r = zeros_known (locals b) o arguments k in
      let takes = h.takes in let lt = r.1.1 in
      let below : r.0 < b.ins = omega (arith, lt, takes) in
      (r.0, (r.1.0, ap new r.1.0 ∙ h.renamed.arguments r.0 below ((h.marks.is_live 0 (locals b + r.0)).0 (subst (λ x. live 0 x ≡ true) r.1.0 l))))

  kind_there : (o i : ℕ) → o ≡ locals b + i → new o ≡ locals d + i → kind_at first'.registers (new o) ≡ kind_at first.registers o
  kind_there o i e z = ap (kind_at first'.registers) z ∙ zeros_behind (locals d) i arguments ∙ sym (ap (kind_at first.registers) e ∙ zeros_behind (locals b) i arguments)

  held_first : Held new (live 0) first.registers first'.registers
  held_first = record {
    whole = λ o l w. let r = argument o l (whole_known (kind_at first.registers o) w) in kind_there o r.0 r.1.0 r.1.1;
    pairs = λ q l l' side low high.
        let r = argument q l (ap is_known low) in let s = argument (q + 1) l' (ap is_known high) in
        (kind_there q r.0 r.1.0 r.1.1 ∙ low, ap (kind_at first'.registers) (sym side) ∙ kind_there (q + 1) s.0 s.1.0 s.1.1 ∙ high);
  }

  long_first : length first.registers ≡ (b.registers - b.ins) + b.ins
  long_first = length-append (replicate (b.registers - b.ins) Undefined) arguments ∙ ap₂ (λ x y. x + y) (length-replicate (b.registers - b.ins) Undefined) h.takes

  long_first' : length first'.registers ≡ size
  long_first' = length-append (replicate (d.registers - d.ins) Undefined) arguments ∙ ap₂ (λ x y. x + y) (length-replicate (d.registers - d.ins) Undefined) (h.takes ∙ sym h.renamed.ins)

  entered : (a : Kinds) × ((state_at t 0 ≡ Some a) × (kinds_below p first a ≡ true))
  entered = by (state_at t 0) refl h.typing.entry
    where
      by : (o : Option Kinds) → state_at t 0 ≡ o → state_below p (Some first) o ≡ true → (a : Kinds) × ((state_at t 0 ≡ Some a) × (kinds_below p first a ≡ true))
      by None i e = clash false e refl
      by (Some a) i e = (a, (i, e))

  begins : At p c m b d h 0 entered.0
  begins = record {
    long = as_long p first.registers entered.0.registers (first_below p first entered.0 entered.1.1) ∙ long_first;
    unique = λ o q lo lq ko kq e.
        let r = argument o lo (was o ko) in let s = argument q lq (was q kq) in
        let y = r.1.1 in let z = s.1.1 in
        let same : r.0 ≡ s.0 = omega (arith, y, z, e) in
        r.1.0 ∙ ap (λ i. locals b + i) same ∙ sym s.1.0;
  }
    where
      was : (o : ℕ) → is_known (kind_at entered.0.registers o) ≡ true → is_known (kind_at first.registers o) ≡ true
      was o k = known_above p (kind_at first.registers o) (kind_at entered.0.registers o) (each_below p first.registers entered.0.registers o (first_below p first entered.0 entered.1.1)) k

  -- ---- kinds that arrive

  below_renewed : (q : ℕ) (k k' l : Kinds) → Held new (live q) k.registers k'.registers → k'.result ≡ k.result → k'.caught ≡ k.caught → k'.receiver ≡ k.receiver → length k'.registers ≡ size → kinds_below p k l ≡ true
      → kinds_below p k' (renewed q l) ≡ true
  below_renewed q k k' l held r s u long e =
      let parts = four (all_below p k.registers l.registers) (is_below p k.result l.result) (is_below p k.caught l.caught) (is_below p k.receiver l.receiver) e in
      four_true (all_below p k'.registers (renewed q l).registers) (is_below p k'.result l.result) (is_below p k'.caught l.caught) (is_below p k'.receiver l.receiver)
      (subst (λ n. all_below p k'.registers (listed n 0 (selected new (live q) l.registers)) ≡ true) long (below_selected p new (live q) k.registers k'.registers l.registers held parts.0))
      (ap (λ x. is_below p x l.result) r ∙ parts.1.0)
      (ap (λ x. is_below p x l.caught) s ∙ parts.1.1.0)
      (ap (λ x. is_below p x l.receiver) u ∙ parts.1.1.1)

  arrives_at : (q : ℕ) (k' l : Kinds) → At p c m b d h q l → state_at t q ≡ Some l → kinds_below p k' (renewed q l) ≡ true → arrives p table (q, k') ≡ true
  arrives_at q k' l w e below = ap (state_below p (Some k')) (there_at q l w e) ∙ below

  module _ (n : ℕ) (f : Form) (a : Kinds) (x : form_at b n ≡ Some f) (y : state_at t n ≡ Some a) (at : At p c m b d h n a) where
    onward_renewed : (q : ℕ) → In q (onward f n) → arrives p table (q, after p c n (named new f) (renewed n a)) ≡ true
    onward_renewed q i =
        let r = onward_arrives p c m b t h.typing n f a x y q i in
        let s = behind n f a x y at q i in
        arrives_at q (after p c n (named new f) (renewed n a)) r.0 (goes_on p c m b d h n f a x y at s.long q r.0 i r.1.1) r.1.0
        (below_renewed q (after p c n f a) (after p c n (named new f) (renewed n a)) r.0 s.held s.result s.caught s.receiver (s.long' ∙ listed_long size 0 (selected new (live n) a.registers)) r.1.1)

    caught_renewed : (q : ℕ) (k : Kind) → In {A = ℕ × Kind} (q, k) (catches p b n f) → In q (caught b f n) → arrives p table (q, record (renewed n a) { caught = k }) ≡ true
    caught_renewed q k i j =
        let r = catch_arrives p c m b t h.typing n f a x y q k i in
        arrives_at q (record (renewed n a) { caught = k }) r.0 (goes_caught p c m b d h n f a x y at q r.0 k j r.1.1) r.1.0
        (below_renewed q (record a { caught = k }) (record (renewed n a) { caught = k }) r.0 (fewer new (live n) (live q) a.registers (renewed n a).registers (held_at n a at) (λ o l. live_caught p c m b d h n q o f x j l))
        refl refl refl (listed_long size 0 (selected new (live n) a.registers)) r.1.1)

    same_catches : catches p d n (named new f) ≡ catches p b n f
    same_catches = ap₂ (λ z rs. if z then catches_in p (region_at (record d { regions = rs }) n) else []) (same_throws new f) h.renamed.regions

    all_arrive : list_all (arrives p table) (edges p c d n (named new f) (renewed n a)) ≡ true
    all_arrive = all_append (arrives p table) (map (λ q. (q, after p c n (named new f) (renewed n a))) (onward (named new f) n)) (map (λ h. (h.0, record (renewed n a) { caught = h.1 })) (catches p d n (named new f)))
        (ap (λ qs. list_all (arrives p table) (map (λ q. (q, after p c n (named new f) (renewed n a))) qs)) (same_onward new f n)
        ∙ all_map (arrives p table) (λ q. (q, after p c n (named new f) (renewed n a))) (onward f n) onward_renewed)
        (ap (λ hs. list_all (arrives p table) (map (λ (h : ℕ × Kind). (h.0, record (renewed n a) { caught = h.1 })) hs)) same_catches
        ∙ all_map (arrives p table) (λ (h : ℕ × Kind). (h.0, record (renewed n a) { caught = h.1 })) (catches p b n f) (λ q i. caught_renewed q.0 q.1 i (catch_caught p b n f q.0 q.1 i)))

    is_right : not (is_wrong p c m (renewed n a) (named new f)) ≡ true
    is_right = ap not (same_wrong new p c m a (renewed n a) f refl ∙ right_at p c m b t h.typing n f a x y)

    reads_allowed : is_allowed p c m (renewed n a) (named new f) ≡ true
    reads_allowed = allowed_held p c m f new (live n) a (renewed n a) (held_at n a at) refl refl (λ o r. live_read p c m b d h n o f x r) (h.calls n f x) (right_at p c m b t h.typing n f a x y) (λ w z i. h.renamed.pairs n f w x (any_back w (wides_written f) (wides_read f) i)) (allowed_at p c m b t h.typing n f a x y)

  -- ---- the typing

  each_state : (test : ℕ → Form → Kinds → Bool) → ((n : ℕ) (f : Form) (a : Kinds) → form_at b n ≡ Some f → state_at t n ≡ Some a → At p c m b d h n a → test n (named new f) (renewed n a) ≡ true)
      → (n : ℕ) → at_state d table (test n) n ≡ true
  each_state test k n = at_form (form_at b n) refl
    where
      at_kinds : (f : Form) → form_at b n ≡ Some f → (v : Bool) → apart n ≡ v → (o : Option Kinds) → state_at t n ≡ o → (elim (state_if v n o) as (λ s. Bool) [ Some a ↦ test n (named new f) a | None ↦ true ]) ≡ true
      at_kinds f x false i o e = refl
      at_kinds f x true i None e = refl
      at_kinds f x true i (Some a) e = k n f a x e (at_of n a i e)

      at_form : (o : Option Form) → form_at b n ≡ o → at_state d table (test n) n ≡ true
      at_form None x = ap (λ o. elim o as (λ o. Bool) [ Some f ↦ elim (state_at table n) as (λ s. Bool) [ Some a ↦ test n f a | None ↦ true ] | None ↦ true ]) (form_there n ∙ ap (option_map (named new)) x)
      at_form (Some f) x = ap (λ o. elim o as (λ o. Bool) [ Some f ↦ elim (state_at table n) as (λ s. Bool) [ Some a ↦ test n f a | None ↦ true ] | None ↦ true ]) (form_there n ∙ ap (option_map (named new)) x)
          ∙ ap (λ s. elim s as (λ s. Bool) [ Some a ↦ test n (named new f) a | None ↦ true ]) (table_at n) ∙ at_kinds f x (apart n) refl (state_at t n) refl

  pub typed_renamed : IsTyping p c m d table
  typed_renamed = record {
    long = long_table t 0 ∙ h.typing.long ∙ sym (ap length h.renamed.forms ∙ map_long (named new) b.forms);
    entry = ap (state_below p (Some first')) (there_at 0 entered.0 begins entered.1.0) ∙ below_renewed 0 first first' entered.0 held_first refl refl refl long_first' entered.1.1;
    reads = all_each (length d.forms) (at_state d table (λ f a. is_allowed p c m a f)) (each_state (λ n f a. is_allowed p c m a f) reads_allowed);
    right = all_each (length d.forms) (at_state d table (λ f a. not (is_wrong p c m a f))) (each_state (λ n f a. not (is_wrong p c m a f)) is_right);
    edges = all_each (length d.forms) (λ n. at_state d table (λ f a. list_all (arrives p table) (edges p c d n f a)) n) (each_state (λ n f a. list_all (arrives p table) (edges p c d n f a)) all_arrive);
  }

pub renamed_typed : (p : NamedProgram) (new : Change) → AllTypedRenamed new p → IsTyped (changed new p)
renamed_typed p new all = moved_typed new all.code p (λ c m d i j e. at c m d i j e m.body refl)
  where
    at : (c : NamedClass) (m : NamedMethod) (d : NamedBody) → Contains p.classes c → Contains c.methods m → (new c m).body ≡ Some d → (o : Option NamedBody) → m.body ≡ o → (t : Table) × IsTyping p c m d t
    at c m d i j e None x = clash true refl (sym (ap is_some e) ∙ all.code c m ∙ ap is_some x)
    at c m d i j e (Some b) x = let h = all.bodies c m b d i j x e in (table p c m b d h, typed_renamed p c m b d h)
