-- A form that has other registers leaves the kinds that it left, in the registers that are read later.
use Rattle.std.proofs.Common.{◌≡◌, ℕ, zero, suc, ◌+◌, ◌<◌, Bool, true, false, List, [], ◌∷◌, ◌++◌, length, refl, sym, ap, ap₂, ◌∙◌, subst, subst₂, inl, inr, arith, eqb-true}
use Rattle.std.specs.Prelude.{◌⊎◌, ◌&&◌, ◌||◌, not, nat_eq, map, if◌then◌else◌}
use Rattle.std.specs.List.{list_any, list_all}
use Rattle.std.specs.Cmp.Lexicographic.{bytes_decides}
use Rattle.lemmas.proofs.Bools.{and_left, neither_of, or_left}
use Rattle.lemmas.proofs.Lists.{map_long}
use Rattle.lemmas.proofs.Numbers.{same_number}
use Rattle.insn_set.specs.Widths.{is_wide_item, unary_writes_wide, binary_is_wide}
use Rattle.insn_set.specs.declared.ops.Slot.TheVariants as slot
use Rattle.insn_set.specs.declared.ops.InvokeKind.{InvokeKind}
use Rattle.insn_set.specs.declared.ops.InvokeKind.TheVariants as call
use Rattle.dalvik_defs.specs.Names.{Text, is_wide}
use Rattle.dalvik_defs.specs.Items.{item_of_type}
use Rattle.dalvik_defs.specs.declared.names.MethodKey.{MethodKey}
use Rattle.dalvik_defs.specs.declared.forms.Form.{Form}
use Rattle.dalvik_defs.specs.declared.forms.Form.TheVariants as form
use Rattle.dalvik_defs.specs.declared.program.NamedClass.{NamedClass}
use Rattle.dalvik_defs.specs.declared.program.NamedMethod.{NamedMethod}
use Rattle.dalvik_defs.specs.declared.program.NamedProgram.{NamedProgram}
use Rattle.pass_defs.specs.Bare.{reads, writes}
use Rattle.pass_defs.specs.Remade.{remade}
use Rattle.pass_defs.specs.Kinds.{Kind, Undefined, Low, High, Word, Reference, Array, Fresh, FreshThis, kind_eq, is_number, is_initialised, kind_of, kind_of_reference}
use Rattle.pass_defs.specs.Registers.{Kinds, kind_at, written_one, written_kinds, written, replaced, replace, forgotten}
use Rattle.pass_defs.specs.Demands.{Constructed, Fits, is_moved, item_eq, is_array_where, is_constructed, is_constructor_name, meets, demands, call_demands, passed, place_allowed, is_allowed}
use Rattle.pass_defs.specs.Typed.{got, number_kind, constant_kind, constructed, receiver_register, is_static_call, called, after, passed_words, words_of, wrong_item, wrong_field, wrong_first, wrong_method, wrong_super, is_wrong}
use Rattle.pass_defs.proofs.Writes.{right_true}
use Rattle.form_laws.specs.Changes.{destination, width}
use Rattle.form_laws.proofs.Uses.{writes_from}
use Rattle.form_laws.proofs.Onward.{clash}
use Rattle.form_laws.specs.Kinds.{is_whole, Held}
use Rattle.form_laws.proofs.Held.{is_known, whole_known, fewer, held_one, held_two, Changes, held_map, one_long, pair_long}
use Rattle.form_laws.proofs.Selecting.{Unique}
use Rattle.form_laws.proofs.Asking.{low_is}
use Rattle.form_laws.proofs.Asking.{moved_whole, number_whole, initialised_whole, array_whole}
use Rattle.form_laws.proofs.Widths.{Takes, whole_takes, constant_takes, number_takes, reference_whole, narrow_kind, type_takes, item_width, got_takes}

pub one_kind : (r : ℕ) (k : Kind) (ks : List Kind) → kind_eq k Low ≡ false → written_kinds r k ks ≡ written_one r k ks
one_kind r Low ks e = clash true refl e
one_kind r k ks e = refl

-- what is forgotten, and what a constructor changes, make no halves
forgets : (n : ℕ) → Changes (forgotten n)
forgets n = record { nothing = refl; low = refl; high = refl; whole = whole; from_low = from_low; from_high = from_high }
  where
    whole : (k : Kind) → is_whole (forgotten n k) ≡ true → is_whole k ≡ true
    whole (Fresh t m) e = refl
    whole k e = e

    other : (t : Text) (m : ℕ) (b : Bool) (k : Kind) → (kind_eq Undefined k ≡ false) → (kind_eq (Fresh t m) k ≡ false) → kind_eq k k ≡ true → (elim b as (λ b. Kind) [ true ↦ Undefined | false ↦ Fresh t m ]) ≡ k → Fresh t m ≡ k
    other t m true k h i j e = clash (kind_eq k k) j (ap (λ x. kind_eq x k) (sym e) ∙ h)
    other t m false k h i j e = e

    from_low : (k : Kind) → forgotten n k ≡ Low → k ≡ Low
    from_low (Fresh t m) e = other t m (nat_eq n m) Low refl refl refl e
    from_low k e = e

    from_high : (k : Kind) → forgotten n k ≡ High → k ≡ High
    from_high (Fresh t m) e = other t m (nat_eq n m) High refl refl refl e
    from_high k e = e

makes : (old new : Kind) → is_whole old ≡ true → kind_eq Undefined old ≡ false → kind_eq Low old ≡ false → kind_eq High old ≡ false → kind_eq new Low ≡ false → kind_eq new High ≡ false
    → ((k : Kind) → kind_eq k old ≡ true → is_whole k ≡ true) → Changes (replaced old new)
makes old new w u l h nl nh same = record {
  nothing = ap (λ b. elim b as (λ b. Kind) [ true ↦ new | false ↦ Undefined ]) u;
  low = ap (λ b. elim b as (λ b. Kind) [ true ↦ new | false ↦ Low ]) l;
  high = ap (λ b. elim b as (λ b. Kind) [ true ↦ new | false ↦ High ]) h;
  whole = λ k e. whole k (kind_eq k old) refl e;
  from_low = λ k e. from k Low nl refl (kind_eq k old) e;
  from_high = λ k e. from k High nh refl (kind_eq k old) e;
}
  where
    whole : (k : Kind) (b : Bool) → kind_eq k old ≡ b → is_whole (elim b as (λ b. Kind) [ true ↦ new | false ↦ k ]) ≡ true → is_whole k ≡ true
    whole k true i e = same k i
    whole k false i e = e

    from : (k half : Kind) → kind_eq new half ≡ false → kind_eq half half ≡ true → (b : Bool) → (elim b as (λ b. Kind) [ true ↦ new | false ↦ k ]) ≡ half → k ≡ half
    from k half n same_number true e = clash (kind_eq half half) same_number (ap (λ x. kind_eq x half) (sym e) ∙ n)
    from k half n same_number false e = e

pub fresh_only : (t : Text) (m : ℕ) (k : Kind) → kind_eq k (Fresh t m) ≡ true → is_whole k ≡ true
fresh_only t m (Fresh s n) e = refl
fresh_only t m k e = clash false e refl

this_only : (k : Kind) → kind_eq k FreshThis ≡ true → is_whole k ≡ true
this_only FreshThis e = refl
this_only k e = clash false e refl

module _ (p : NamedProgram) (c : NamedClass) (m : NamedMethod) (n : ℕ) (new : ℕ → ℕ) (a a' : Kinds) (live live' : ℕ → Bool) where
  abbrev named : Form → Form
  named f = remade new new (λ t. t) f

  -- what is known before a form
  pub record Before (f : Form) : Type 0 where
    pub held : Held new live a.registers a'.registers
    pub unique : Unique new live a.registers
    pub result : a'.result ≡ a.result
    pub caught : a'.caught ≡ a.caught
    pub receiver : a'.receiver ≡ a.receiver
    -- what is live behind the form and isn't written was live, and stands for another than what is written
    pub unwritten : (o : ℕ) → live' o ≡ true → writes f o ≡ false → (live o ≡ true) × ((i : ℕ) → i < width f → new o ≡ new (destination f + i) → ⊥)
    pub side : width f ≡ 2 → new (destination f + 1) ≡ new (destination f) + 1
    pub used : (o : ℕ) → reads f o ≡ true → live o ≡ true
    pub room : (i : ℕ) → i < width f → (destination f + i < length a.registers) × (new (destination f + i) < length a'.registers)
    pub read_room : (o : ℕ) → reads f o ≡ true → (o < length a.registers) × (new o < length a'.registers)
    pub allowed : is_allowed p c m a f ≡ true
    pub right : is_wrong p c m a f ≡ false
    pub class : is_wide c.name ≡ false
    pub calls : (kind : InvokeKind) (k : MethodKey) (args : List ℕ) → f ≡ form.Invoke kind k args → is_wide k.class ≡ false

  -- and behind it
  pub record After (f : Form) : Type 0 where
    pub held : Held new live' (after p c n f a).registers (after p c n (named f) a').registers
    pub result : (after p c n (named f) a').result ≡ (after p c n f a).result
    pub caught : (after p c n (named f) a').caught ≡ (after p c n f a).caught
    pub receiver : (after p c n (named f) a').receiver ≡ (after p c n f a).receiver
    pub long : length (after p c n f a).registers ≡ length a.registers
    pub long' : length (after p c n (named f) a').registers ≡ length a'.registers

  module _ (f : Form) (b : Before f) where
    asked : list_all (λ d. meets p c a.registers d.0 d.1) (demands p c m a.registers f) ≡ true
    asked = right_true (place_allowed a f) _ b.allowed

    quiet : ((o : ℕ) → writes f o ≡ false) → after p c n f a ≡ a → after p c n (named f) a' ≡ a' → After f
    quiet w e e' = record {
      held = subst₂ (λ x y. Held new live' x.registers y.registers) (sym e) (sym e') (fewer new live live' a.registers a'.registers b.held (λ o l. (b.unwritten o l (w o)).0));
      result = ap (λ x. x.result) e' ∙ b.result ∙ sym (ap (λ x. x.result) e);
      caught = ap (λ x. x.caught) e' ∙ b.caught ∙ sym (ap (λ x. x.caught) e);
      receiver = ap (λ x. x.receiver) e' ∙ b.receiver ∙ sym (ap (λ x. x.receiver) e);
      long = ap (λ x. length x.registers) e;
      long' = ap (λ x. length x.registers) e';
    }

    -- a register that isn't behind the destination isn't written
    free : (o : ℕ) → ((i : ℕ) → i < width f → o ≡ destination f + i → ⊥) → writes f o ≡ false
    free o h = by (writes f o) refl
      where
        by : (v : Bool) → writes f o ≡ v → writes f o ≡ false
        by false e = e
        by true e = let w = writes_from f o e in absurd (h w.0 w.1.0 w.1.1)

    long_kinds : (r : ℕ) (k : Kind) (ks : List Kind) → length (written_kinds r k ks) ≡ length ks
    long_kinds r k ks = by (same k)
      where
        same : (k : Kind) → (kind_eq k Low ≡ false) ⊎ (k ≡ Low)
        same Low = inr refl
        same k = inl refl

        by : (kind_eq k Low ≡ false) ⊎ (k ≡ Low) → length (written_kinds r k ks) ≡ length ks
        by (inl e) = ap length (one_kind r k ks e) ∙ one_long r k ks
        by (inr e) = ap (λ k. length (written_kinds r k ks)) e ∙ pair_long r ks

    -- kinds with the same written where the form writes
    wrote : (ks ks' : List Kind) → Held new live ks ks' → length ks ≡ length a.registers → length ks' ≡ length a'.registers → (k k' : Kind) → k' ≡ k → Takes k (width f)
        → Held new live' (written_kinds (destination f) k ks) (written_kinds (new (destination f)) k' ks')
    wrote ks ks' held l l' k k' e (inl h) = subst₂ (λ x y. Held new live' x y) (sym (one_kind (destination f) k ks h.0)) (sym (one_kind (new (destination f)) k' ks' (ap (λ k. kind_eq k Low) e ∙ h.0) ∙ ap (λ k. written_one (new (destination f)) k ks') e))
        (held_one new live live' ks ks' held (destination f) k apart (subst₂ (λ x y. x < y) (omega arith) (sym l) r.0) (subst₂ (λ x y. new x < y) (omega arith) (sym l') r.1) h.0)
      where
        first : 0 < width f
        first = let w = h.1 in omega (arith, w)

        r : (destination f + 0 < length a.registers) × (new (destination f + 0) < length a'.registers)
        r = b.room 0 first

        apart : (o : ℕ) → live' o ≡ true → (o ≡ destination f → ⊥) → (live o ≡ true) × (is_known (kind_at ks o) ≡ true → new o ≡ new (destination f) → ⊥)
        apart o l ne =
            let u = b.unwritten o l (free o (λ i lt z. let w = h.1 in ne (omega (arith, z, lt, w)))) in
            (u.0, λ k z. u.1 0 first (z ∙ ap new (omega arith)))
    wrote ks ks' held l l' k k' e (inr h) = subst₂ (λ x y. Held new live' (written_kinds (destination f) x ks) (written_kinds (new (destination f)) y ks')) (sym h.0) (sym (e ∙ h.0))
        (held_two new live live' ks ks' held (destination f) side apart (subst (λ y. destination f + 1 < y) (sym l) r.0) (subst₂ (λ x y. x < y) side (sym l') r.1))
      where
        first : 0 < width f
        first = let w = h.1 in omega (arith, w)

        second : 1 < width f
        second = let w = h.1 in omega (arith, w)

        side : new (destination f + 1) ≡ new (destination f) + 1
        side = b.side h.1

        r : (destination f + 1 < length a.registers) × (new (destination f + 1) < length a'.registers)
        r = b.room 1 second

        apart : (o : ℕ) → live' o ≡ true → (o ≡ destination f → ⊥) → (o ≡ destination f + 1 → ⊥) → (live o ≡ true) × (is_known (kind_at ks o) ≡ true → (new o ≡ new (destination f) → ⊥) × (new o ≡ new (destination f) + 1 → ⊥))
        apart o l ne ne' =
            let u = b.unwritten o l (free o (λ i lt z. let w = h.1 in in_two i (subst (λ x. i < x) w lt) z)) in
            (u.0, λ k. (λ z. u.1 0 first (z ∙ ap new (omega arith)), λ z. u.1 1 second (z ∙ sym side)))
          where
            in_two : (i : ℕ) → i < 2 → o ≡ destination f + i → ⊥
            in_two zero lt z = ne (omega (arith, z))
            in_two (suc zero) lt z = ne' z
            in_two (suc (suc i)) lt z = absurd (omega (arith, lt))

    writing : (k k' : Kind) → k' ≡ k → Takes k (width f) → after p c n f a ≡ written (destination f) k a → after p c n (named f) a' ≡ written (new (destination f)) k' a' → After f
    writing k k' e w i i' = record {
      held = subst₂ (λ x y. Held new live' x.registers y.registers) (sym i) (sym i') (wrote a.registers a'.registers b.held refl refl k k' e w);
      result = ap (λ x. x.result) i' ∙ b.result ∙ sym (ap (λ x. x.result) i);
      caught = ap (λ x. x.caught) i' ∙ b.caught ∙ sym (ap (λ x. x.caught) i);
      receiver = ap (λ x. x.receiver) i' ∙ b.receiver ∙ sym (ap (λ x. x.receiver) i);
      long = ap (λ x. length x.registers) i ∙ long_kinds (destination f) k a.registers;
      long' = ap (λ x. length x.registers) i' ∙ long_kinds (new (destination f)) k' a'.registers;
    }

    whole_read : (o : ℕ) → reads f o ≡ true → is_whole (kind_at a.registers o) ≡ true → kind_at a'.registers (new o) ≡ kind_at a.registers o
    whole_read o r w = b.held.whole o (b.used o r) w

  -- ---- the forms

  moved_from : (to from : ℕ) (b : Before (form.Move slot.Word to from)) → is_whole (kind_at a.registers from) ≡ true
  moved_from to from b = moved_whole (kind_at a.registers from) (and_left (is_moved (kind_at a.registers from)) true (asked (form.Move slot.Word to from) b))

  moved_object : (to from : ℕ) (b : Before (form.Move slot.Object to from)) → is_whole (kind_at a.registers from) ≡ true
  moved_object to from b = moved_whole (kind_at a.registers from) (and_left (is_moved (kind_at a.registers from)) true (asked (form.Move slot.Object to from) b))

  -- a cast writes a register that it reads
  cast : (on : ℕ) (kind : Text) → Before (form.CheckCast on kind) → After (form.CheckCast on kind)
  cast on kind b = record {
    held = subst₂ (λ x y. Held new live' x y) (sym (one_kind on k a.registers narrow)) (sym (one_kind (new on) k a'.registers narrow))
        (held_one new live live' a.registers a'.registers b.held on k apart room.0 room.1 narrow);
    result = b.result;
    caught = b.caught;
    receiver = b.receiver;
    long = ap length (one_kind on k a.registers narrow) ∙ one_long on k a.registers;
    long' = ap length (one_kind (new on) k a'.registers narrow) ∙ one_long (new on) k a'.registers;
  }
    where
      k : Kind
      k = kind_of_reference p kind

      narrow : kind_eq k Low ≡ false
      narrow = at (whole_takes k (reference_whole p kind))
        where
          at : Takes k 1 → kind_eq k Low ≡ false
          at (inl h) = h.0
          at (inr h) = let w = h.1 in absurd (omega (arith, w))

      room : (on < length a.registers) × (new on < length a'.registers)
      room = b.read_room on (same_number on)

      known : is_known (kind_at a.registers on) ≡ true
      known = whole_known (kind_at a.registers on) (initialised_whole (kind_at a.registers on) (and_left (is_initialised (kind_at a.registers on)) true (asked (form.CheckCast on kind) b)))

      apart : (o : ℕ) → live' o ≡ true → (o ≡ on → ⊥) → (live o ≡ true) × (is_known (kind_at a.registers o) ≡ true → new o ≡ new on → ⊥)
      apart o l ne = let u = b.unwritten o l refl in (u.0, λ h z. ne (b.unique o on u.0 (b.used on (same_number on)) h known z))

  -- an object that is made was never initialised before
  made : (to : ℕ) (kind : Text) → Before (form.NewInstance to kind) → After (form.NewInstance to kind)
  made to kind b = record {
    held = wrote (form.NewInstance to kind) b (map (forgotten n) a.registers) (map (forgotten n) a'.registers) (held_map (forgotten n) (forgets n) new live a.registers a'.registers b.held)
        (map_long (forgotten n) a.registers) (map_long (forgotten n) a'.registers) (Fresh kind n) (Fresh kind n) refl (inl (refl, refl));
    result = b.result;
    caught = b.caught;
    receiver = b.receiver;
    long = one_long to (Fresh kind n) (map (forgotten n) a.registers) ∙ map_long (forgotten n) a.registers;
    long' = one_long (new to) (Fresh kind n) (map (forgotten n) a'.registers) ∙ map_long (forgotten n) a'.registers;
  }

  -- ---- calls

  -- what a constructor does to a receiver of a kind
  pub record Built (x x' : Kinds) : Type 0 where
    pub held : Held new live x.registers x'.registers
    pub caught : x'.caught ≡ x.caught
    pub receiver : x'.receiver ≡ x.receiver
    pub long : length x.registers ≡ length a.registers
    pub long' : length x'.registers ≡ length a'.registers

  unbuilt : Held new live a.registers a'.registers → a'.caught ≡ a.caught → a'.receiver ≡ a.receiver → Built a a'
  unbuilt h i j = record { held = h; caught = i; receiver = j; long = refl; long' = refl }

  replaces : (old k : Kind) → Changes (replaced old k) → Built a a' → Built (replace old k a) (replace old k a')
  replaces old k h b = record {
    held = held_map (replaced old k) h new live a.registers a'.registers b.held;
    caught = b.caught;
    receiver = ap (replaced old k) b.receiver;
    long = map_long (replaced old k) a.registers;
    long' = map_long (replaced old k) a'.registers;
  }

  builds : (t : Text) (k : Kind) → is_wide t ≡ false → is_wide c.name ≡ false → is_constructed c t k ≡ true → Built a a' → Built (constructed p c k a) (constructed p c k a')
  builds t (Fresh s q) w w' e b =
      let same : s ≡ t = (bytes_decides s t).0 e in
      let narrow = narrow_kind p s (ap is_wide same ∙ w) in
      replaces (Fresh s q) (kind_of p s) (makes (Fresh s q) (kind_of p s) refl refl refl refl narrow.0 narrow.1 (fresh_only s q)) b
  builds t FreshThis w w' e b =
      let narrow = narrow_kind p c.name w' in
      replaces FreshThis (kind_of p c.name) (makes FreshThis (kind_of p c.name) refl refl refl refl narrow.0 narrow.1 this_only) b
  builds t k w w' e b = clash false e refl

  pub fresh_whole : (t : Text) (k : Kind) → is_constructed c t k ≡ true → is_whole k ≡ true
  fresh_whole t (Fresh s q) e = refl
  fresh_whole t FreshThis e = refl
  fresh_whole t k e = clash false e refl

  call_right : (kind : InvokeKind) (k : MethodKey) (rs : List ℕ) → is_wrong p c m a (form.Invoke kind k rs) ≡ false → (wrong_super p c kind k ≡ false) × (length rs ≡ passed_words kind k)
  call_right kind k rs e =
      let x = neither_of (wrong_method p kind k || wrong_super p c kind k) (not (nat_eq (length rs) (passed_words kind k))) e in
      ((neither_of (wrong_method p kind k) (wrong_super p c kind k) x.0).1, eqb-true (length rs) (passed_words kind k) (not_false (nat_eq (length rs) (passed_words kind k)) x.1))
    where
      not_false : (b : Bool) → not b ≡ false → b ≡ true
      not_false true e = refl
      not_false false e = clash true refl e

  -- a constructor's receiver is one that is to be constructed
  built_receiver : (kind : InvokeKind) (k : MethodKey) (r : ℕ) (rs : List ℕ) → is_constructor_name k.name ≡ true → is_static_call kind ≡ false → wrong_super p c kind k ≡ false
      → list_all (λ d. meets p c a.registers d.0 d.1) (call_demands p c kind k (r ∷ rs)) ≡ true → is_constructed c k.class (kind_at a.registers r) ≡ true
  built_receiver call.Static k r rs i s w e = clash true refl s
  built_receiver call.Super k r rs i s w e = clash (is_constructor_name k.name) i (neither_of (is_constructor_name k.name) _ w).0
  built_receiver kind k r rs i s w e = and_left (is_constructed c k.class (kind_at a.registers r)) _
      (subst (λ b. list_all (λ d. meets p c a.registers d.0 d.1) (map (λ d. (r, d)) ((if b then Constructed k.class else Fits k.class) ∷ []) ++ passed k.signature.parameters rs) ≡ true) i e)

  constructs : (kind : InvokeKind) (k : MethodKey) (rs : List ℕ) → Before (form.Invoke kind k rs) → is_constructor_name k.name ≡ true → is_static_call kind ≡ false
      → Built (constructed p c (kind_at a.registers (receiver_register rs)) a) (constructed p c (kind_at a'.registers (receiver_register (map new rs))) a')
  constructs kind k [] b i s = let w = (call_right kind k [] b.right).1 in absurd (no_words kind s w)
    where
      no_words : (kind : InvokeKind) → is_static_call kind ≡ false → 0 ≡ passed_words kind k → ⊥
      no_words kind s w = let e : passed_words kind k ≡ 1 + words_of k.signature.parameters = ap (λ b. (if b then 0 else 1) + words_of k.signature.parameters) s in omega (arith, w, e)
  constructs kind k (r ∷ rs) b i s =
      let f = form.Invoke kind k (r ∷ rs) in
      let is = built_receiver kind k r rs i s (call_right kind k (r ∷ rs) b.right).0 (asked f b) in
      let same = whole_read f b r (or_left (nat_eq r r) (list_any (λ a. nat_eq a r) rs) (same_number r)) (fresh_whole k.class (kind_at a.registers r) is) in
      subst (λ x. Built (constructed p c (kind_at a.registers r) a) (constructed p c x a')) (sym same)
      (builds k.class (kind_at a.registers r) (b.calls kind k (r ∷ rs) refl) b.class is (unbuilt b.held b.caught b.receiver))

  calls : (kind : InvokeKind) (k : MethodKey) (rs : List ℕ) → Before (form.Invoke kind k rs) → After (form.Invoke kind k rs)
  calls kind k rs b = by (is_constructor_name k.name) (is_static_call kind) refl refl
    where
      f : Form
      f = form.Invoke kind k rs

      from : (x x' : Kinds) → Built x x' → called p c kind k rs a ≡ record x { result = kind_of p k.signature.result } → called p c kind k (map new rs) a' ≡ record x' { result = kind_of p k.signature.result } → After f
      from x x' h e e' = record {
        held = subst₂ (λ y z. Held new live' y.registers z.registers) (sym e) (sym e') (fewer new live live' x.registers x'.registers h.held (λ o l. (b.unwritten o l refl).0));
        result = ap (λ x. x.result) e' ∙ sym (ap (λ x. x.result) e);
        caught = ap (λ x. x.caught) e' ∙ h.caught ∙ sym (ap (λ x. x.caught) e);
        receiver = ap (λ x. x.receiver) e' ∙ h.receiver ∙ sym (ap (λ x. x.receiver) e);
        long = ap (λ x. length x.registers) e ∙ h.long;
        long' = ap (λ x. length x.registers) e' ∙ h.long';
      }

      by : (x y : Bool) → is_constructor_name k.name ≡ x → is_static_call kind ≡ y → After f
      by true false i j = from (constructed p c (kind_at a.registers (receiver_register rs)) a) (constructed p c (kind_at a'.registers (receiver_register (map new rs))) a') (constructs kind k rs b i j)
          (ap₂ (λ x y. record (if x && not y then constructed p c (kind_at a.registers (receiver_register rs)) a else a) { result = kind_of p k.signature.result }) i j)
          (ap₂ (λ x y. record (if x && not y then constructed p c (kind_at a'.registers (receiver_register (map new rs))) a' else a') { result = kind_of p k.signature.result }) i j)
      by true true i j = from a a' (unbuilt b.held b.caught b.receiver)
          (ap₂ (λ x y. record (if x && not y then constructed p c (kind_at a.registers (receiver_register rs)) a else a) { result = kind_of p k.signature.result }) i j)
          (ap₂ (λ x y. record (if x && not y then constructed p c (kind_at a'.registers (receiver_register (map new rs))) a' else a') { result = kind_of p k.signature.result }) i j)
      by false y i j = from a a' (unbuilt b.held b.caught b.receiver)
          (ap (λ x. record (if x && not (is_static_call kind) then constructed p c (kind_at a.registers (receiver_register rs)) a else a) { result = kind_of p k.signature.result }) i)
          (ap (λ x. record (if x && not (is_static_call kind) then constructed p c (kind_at a'.registers (receiver_register (map new rs))) a' else a') { result = kind_of p k.signature.result }) i)

  -- ---- all forms

  pub stepped : (f : Form) → Before f → After f
  stepped form.Nop b = quiet form.Nop b (λ o. refl) refl refl
  stepped (form.Move slot.Word to from) b = let w = moved_from to from b in
      writing (form.Move slot.Word to from) b (kind_at a.registers from) (kind_at a'.registers (new from)) (whole_read (form.Move slot.Word to from) b from (same_number from) w) (whole_takes (kind_at a.registers from) w) refl refl
  stepped (form.Move slot.Object to from) b = let w = moved_object to from b in
      writing (form.Move slot.Object to from) b (kind_at a.registers from) (kind_at a'.registers (new from)) (whole_read (form.Move slot.Object to from) b from (same_number from) w) (whole_takes (kind_at a.registers from) w) refl refl
  stepped (form.Move slot.Wide to from) b = writing (form.Move slot.Wide to from) b Low Low refl (inr (refl, refl)) refl refl
  stepped (form.MoveResult slot.Word to) b = writing (form.MoveResult slot.Word to) b a.result a'.result b.result (whole_takes a.result (number_whole a.result (and_left (is_number a.result) true b.allowed))) refl refl
  stepped (form.MoveResult slot.Object to) b = writing (form.MoveResult slot.Object to) b a.result a'.result b.result (whole_takes a.result (initialised_whole a.result (and_left (is_initialised a.result) true b.allowed))) refl refl
  stepped (form.MoveResult slot.Wide to) b = writing (form.MoveResult slot.Wide to) b a.result a'.result b.result (inr (low_is a.result (and_left (kind_eq a.result Low) true b.allowed), refl)) refl refl
  stepped (form.MoveException to) b = writing (form.MoveException to) b a.caught a'.caught b.caught (whole_takes a.caught (initialised_whole a.caught (and_left (is_initialised a.caught) true b.allowed))) refl refl
  stepped (form.Const to value) b = writing (form.Const to value) b (constant_kind value) (constant_kind value) refl (constant_takes value) refl refl
  stepped (form.ConstWide to value) b = writing (form.ConstWide to value) b Low Low refl (inr (refl, refl)) refl refl
  stepped (form.ConstString to text) b = writing (form.ConstString to text) b Reference Reference refl (inl (refl, refl)) refl refl
  stepped (form.ConstClass to kind) b = writing (form.ConstClass to kind) b Reference Reference refl (inl (refl, refl)) refl refl
  stepped (form.CheckCast on kind) b = cast on kind b
  stepped (form.InstanceOf to from kind) b = writing (form.InstanceOf to from kind) b Word Word refl (inl (refl, refl)) refl refl
  stepped (form.ArrayLength to from) b = writing (form.ArrayLength to from) b Word Word refl (inl (refl, refl)) refl refl
  stepped (form.NewInstance to kind) b = made to kind b
  stepped (form.NewArray to size kind) b = writing (form.NewArray to size kind) b (Array kind) (Array kind) refl (inl (refl, refl)) refl refl
  stepped (form.FilledNewArray kind args) b = record {
    held = fewer new live live' a.registers a'.registers b.held (λ o l. (b.unwritten o l refl).0);
    result = refl;
    caught = b.caught;
    receiver = b.receiver;
    long = refl;
    long' = refl;
  }
  stepped (form.Cmp op to x y) b = writing (form.Cmp op to x y) b Word Word refl (inl (refl, refl)) refl refl
  stepped (form.ArrayGet item to array index) b =
      let f = form.ArrayGet item to array index in
      let e = and_left (is_array_where (λ t. item_eq (item_of_type t) item) (kind_at a.registers array)) _ (asked f b) in
      let same = whole_read f b array (or_left (nat_eq array array) (nat_eq array index) (same_number array)) (array_whole (λ t. item_eq (item_of_type t) item) (kind_at a.registers array) e) in
      writing f b (got p item (kind_at a.registers array)) (got p item (kind_at a'.registers (new array))) (ap (got p item) same) (got_takes p item (kind_at a.registers array) e) refl refl
  stepped (form.InstanceGet item to on field) b =
      let e = item_width p item field.kind (neither_of (wrong_item item field.kind) (wrong_field p false field) b.right).0 in
      writing (form.InstanceGet item to on field) b (kind_of p field.kind) (kind_of p field.kind) refl (type_takes p field.kind (is_wide_item item) e) refl refl
  stepped (form.StaticGet item to field) b =
      let e = item_width p item field.kind (neither_of (wrong_item item field.kind) (wrong_field p true field) (neither_of (wrong_item item field.kind || wrong_field p true field) (wrong_first p field) b.right).0).0 in
      writing (form.StaticGet item to field) b (kind_of p field.kind) (kind_of p field.kind) refl (type_takes p field.kind (is_wide_item item) e) refl refl
  stepped (form.Invoke kind method args) b = calls kind method args b
  stepped (form.Unary op to from) b = writing (form.Unary op to from) b (number_kind (unary_writes_wide op)) (number_kind (unary_writes_wide op)) refl (number_takes (unary_writes_wide op)) refl refl
  stepped (form.Binary op to x y) b = writing (form.Binary op to x y) b (number_kind (binary_is_wide op)) (number_kind (binary_is_wide op)) refl (number_takes (binary_is_wide op)) refl refl
  stepped (form.Literal op to x value) b = writing (form.Literal op to x value) b Word Word refl (inl (refl, refl)) refl refl
  stepped f b = quiet f b (λ o. refl) refl refl
