-- A program with other registers shows the same.
use Rattle.std.proofs.Common.{◌≡◌, ℕ, zero, suc, ◌+◌, ◌<◌, Bool, true, false, List, [], ◌∷◌, ◌++◌, Option, Some, None, refl, sym, ap, ◌∙◌, subst, subst₂, inl, inr, arith}
use Rattle.std.specs.Prelude.{◌⊎◌, map, slice_get, slice_index_or, replicate}
use Rattle.std.specs.Option.{option_map}
use Rattle.lemmas.proofs.Bools.{or_left}
use Rattle.lemmas.proofs.Lists.{get_map}
use Rattle.dalvik_defs.specs.Face.{Bodies, bodies_of}
use Rattle.dalvik_defs.specs.Outer.{Outer}
use Rattle.dalvik_defs.specs.State.{State}
use Rattle.dalvik_defs.specs.declared.state.Value.{Value}
use Rattle.dalvik_defs.specs.declared.state.Value.TheVariants.{Word}
use Rattle.dalvik_defs.specs.Effect.{register}
use Rattle.dalvik_defs.specs.Stack.{entry_frame}
use Rattle.dalvik_defs.specs.Happens.{Setting}
use Rattle.dalvik_defs.specs.Step.{setting_of}
use Rattle.dalvik_defs.specs.Shown.{SameShown}
use Rattle.dalvik_defs.specs.declared.names.MethodKey.{MethodKey}
use Rattle.dalvik_defs.specs.declared.forms.Form.{Form}
use Rattle.dalvik_defs.specs.declared.program.NamedBody.{NamedBody}
use Rattle.dalvik_defs.specs.declared.program.NamedProgram.{NamedProgram}
use Rattle.pass_defs.specs.Bare.{reads, writes}
use Rattle.pass_defs.specs.Remade.{remade}
use Rattle.pass_defs.specs.Walks.{form_at, onward, caught, IsReadAt, IsRead}
use Rattle.pass_defs.specs.Packed.{Conflict, First, wides_written, wides_read, locals}
use Rattle.program_laws.specs.Bodies.{Change, changed}
use Rattle.program_laws.proofs.ChangedFaces.{face_same}
use Rattle.form_laws.specs.Changes.{In, destination, width}
use Rattle.form_laws.proofs.Forms.{form_law}
use Rattle.form_laws.proofs.Asked.{any_front, any_back, pair_taken, pair_written}
use Rattle.form_laws.proofs.Uses.{or_right, same_reads, narrow, writes_at, writes_from, remade_destination}
use Rattle.form_laws.specs.Rewriting.{Claims, frame_size, Comes, Writes, Keeps, Fits, IsInPlace}
use Rattle.form_laws.specs.Solid.{IsSolid, AllSolid}
use Rattle.form_laws.proofs.Onward.{clash, contained}
use Rattle.form_laws.proofs.Bodies.{replaced, some_replaced, none_replaced}
use Rattle.form_laws.proofs.Programs.{in_place_always}
use Rattle.form_laws.specs.Renamed.{IsRenamed, AllRenamed, Lives}
use Rattle.form_laws.proofs.Reading.{reads_some}

-- ---- the registers of an entry

zeros_front : (n i : ℕ) (vs : List Value) → i < n → slice_index_or (replicate n (Word 0) ++ vs) i (Word 0) ≡ Word 0
zeros_front zero i vs lt = absurd (omega (arith, lt))
zeros_front (suc n) zero vs lt = refl
zeros_front (suc n) (suc i) vs lt = zeros_front n i vs (omega (arith, lt))

zeros_back : (n i : ℕ) (vs : List Value) → slice_index_or (replicate n (Word 0) ++ vs) (n + i) (Word 0) ≡ slice_index_or vs i (Word 0)
zeros_back zero i vs = ap (λ j. slice_index_or vs j (Word 0)) (omega arith)
zeros_back (suc n) i vs = let e : suc (n + i) ≡ suc n + i = omega arith in
    subst (λ j. slice_index_or (replicate (suc n) (Word 0) ++ vs) j (Word 0) ≡ slice_index_or vs i (Word 0)) e (zeros_back n i vs)

below_or : (n o : ℕ) → (o < n) ⊎ ((i : ℕ) × (o ≡ n + i))
below_or zero o = inr (o, omega arith)
below_or (suc n) zero = inl (omega arith)
below_or (suc n) (suc o) = elim (below_or n o) [ inl lt ↦ inl (omega (arith, lt)) | inr h ↦ let e = h.1 in inr (h.0, omega (arith, e)) ]

-- ---- what is read

module _ (s : Setting) (find other : Bodies) (new : MethodKey → ℕ → ℕ) where
  abbrev I : State → Type 0
  I t = Unit {0}

  abbrev R : Claims
  R = Lives find new

  module _ (k : MethodKey) (b d : NamedBody) (e : find k ≡ Some b) (e' : other k ≡ Some d) (renamed : IsRenamed b d (new k)) (solid : IsSolid b) where
    there : (n : ℕ) → form_at d n ≡ option_map (remade (new k) (new k) (λ t. t)) (form_at b n)
    there n = ap (λ fs. slice_get fs n) renamed.forms ∙ get_map (remade (new k) (new k) (λ t. t)) b.forms n

    module _ (n : ℕ) (f : Form) (x : form_at b n ≡ Some f) where
      abbrev f' : Form
      f' = remade (new k) (new k) (λ t. t) f

      -- where a register behind the destination goes
      goes_to : (i : ℕ) → i < width f → new k (destination f + i) ≡ destination f' + i
      goes_to zero lt = ap (new k) (omega arith) ∙ sym (remade_destination (new k) (new k) (λ t. t) f zero lt) ∙ omega arith
      goes_to (suc zero) lt = let a = narrow f in let z : width f ≡ 2 = omega (arith, a, lt) in
          renamed.pairs n f (destination f) x (any_front (destination f) (wides_written f) (wides_read f) (pair_written f z)) ∙ ap (λ y. y + 1) (sym (remade_destination (new k) (new k) (λ t. t) f (suc zero) lt))
      goes_to (suc (suc i)) lt = let a = narrow f in absurd (omega (arith, a, lt))

      used : (r : ℕ) → writes f r ≡ true → (r < b.registers) × (new k r < d.registers)
      used r i = let u = or_right (reads f r) (writes f r) i in (solid.room n f r x u, renamed.room n f r x u)

      same_body : (q : NamedBody) → find k ≡ Some q → q ≡ b
      same_body q i = ap (λ o. elim o as (λ o. NamedBody) [ Some z ↦ z | None ↦ q ]) (sym i ∙ e)

      comes : (m o y : ℕ) → In m (onward f n) → R k m o y → Comes R k n f f' o y
      comes m o y i r = by (writes f o) refl
        where
          read : IsRead b o m
          read = subst (λ q. IsRead q o m) (same_body r.body r.is) r.read

          apart : writes f o ≡ false → (i : ℕ) → i < width f → y ≡ destination f' + i → ⊥
          apart j a lt z =
              let c : Conflict b (destination f + a) o = First (record { position = n; form = f; next = m; has_form = x; writes_it = writes_at f a lt; goes = contained m (onward f n) i; read = read }) in
              let same : destination f + a ≡ o = renamed.apart (destination f + a) o c (goes_to a lt ∙ sym z ∙ r.named) in
              clash (writes f o) (ap (writes f) (sym same) ∙ writes_at f a lt) j

          by : (v : Bool) → writes f o ≡ v → Comes R k n f f' o y
          by true j = let w = writes_from f o j in Writes (record { place = w.0; below = w.1.0; old = w.1.1; new = r.named ∙ ap (new k) w.1.1 ∙ goes_to w.0 w.1.0 })
          by false j = Keeps
              (record { old = λ a lt z. clash (writes f o) (ap (writes f) z ∙ writes_at f a lt) j; new = apart j })
              (record { body = b; is = e; named = r.named; read = (read.0, IsReadAt.Onward n m read.0 f x j (contained m (onward f n) i) read.1) })

      fits : Fits s find other R I k b n f f'
      fits = record {
        alike = λ w c g g' rest script h i j ig. inl (form_law s.face.under s.floats (new k) (new k) (λ t. t) f w g g' h.result h.caught
            (same_reads (new k) (new k) (λ t. t) g g' f (λ r a. h.registers r (new k r)
            (subst₂ (λ m p. R m p r (new k r)) (sym i) (sym j) (record { body = b; is = e; named = refl; read = (n, IsReadAt.Here n f x a) }))) (pair_taken (new k) f (λ q i. renamed.pairs n f q x (any_back q (wides_written f) (wides_read f) i)))));
        room = λ i lt. let u = used (destination f + i) (writes_at f i lt) in
            let o : destination f + i < b.registers = u.0 in
            let v : destination f' + i < d.registers = subst (λ y. y < d.registers) (goes_to i lt) u.1 in
            (subst (λ z. destination f + i < frame_size z) (sym e) (omega (arith, o)), subst (λ z. destination f' + i < frame_size z) (sym e') (omega (arith, v)));
        onward = comes;
        caught = λ m o y i r. let read = subst (λ q. IsRead q o m) (same_body r.body r.is) r.read in
            record { body = b; is = e; named = r.named; read = (read.0, IsReadAt.Caught n m read.0 f x (contained m (caught b f n) i) read.1) };
      }

    entry : (vs : List Value) (o y : ℕ) → R k 0 o y → register (entry_frame k vs d) y ≡ register (entry_frame k vs b) o
    entry vs o y r = held
      where
        read : IsRead b o 0
        read = subst (λ q. IsRead q o 0) (ap (λ o. elim o as (λ o. NamedBody) [ Some z ↦ z | None ↦ r.body ]) (sym r.is ∙ e)) r.read

        below : o < b.registers
        below = let u = reads_some b o 0 read.0 read.1 in solid.room u.0 u.1.0 o u.1.1.0 (or_left (reads u.1.0 o) (writes u.1.0 o) u.1.1.1)

        held : register (entry_frame k vs d) y ≡ register (entry_frame k vs b) o
        held = by (below_or (locals b) o)
          where
            by : (o < locals b) ⊎ ((i : ℕ) × (o ≡ locals b + i)) → register (entry_frame k vs d) y ≡ register (entry_frame k vs b) o
            by (inl lt) = zeros_front (locals d) y vs (subst (λ z. z < locals d) (sym r.named) (renamed.plain o lt read)) ∙ sym (zeros_front (locals b) o vs lt)
            by (inr h) =
                let z = h.1 in let lt = below in
                let ib : h.0 < b.ins = omega (arith, z, lt) in
                let a : new k o ≡ locals d + h.0 = ap (new k) h.1 ∙ renamed.arguments h.0 ib (subst (λ z. IsRead b z 0) h.1 read) in
                ap (λ z. register (entry_frame k vs d) z) (r.named ∙ a) ∙ zeros_back (locals d) h.0 vs ∙ sym (zeros_back (locals b) h.0 vs) ∙ ap (λ z. register (entry_frame k vs b) z) (sym h.1)

module _ (p : NamedProgram) (new : Change) (all : AllRenamed new p) (solid : AllSolid p) where
  abbrev find : Bodies
  find = bodies_of p

  abbrev other : Bodies
  other = bodies_of (changed new p)

  renamed_in : (k : MethodKey) (b d : NamedBody) → find k ≡ Some b → other k ≡ Some d → (names : ℕ → ℕ) × IsRenamed b d names
  renamed_in k b d e e' = let r = replaced new p k b e in all.bodies r.class r.method b d r.in_program r.in_class r.body (sym r.other ∙ e')

  solid_in : (k : MethodKey) (b : NamedBody) → find k ≡ Some b → IsSolid b
  solid_in k b e = let r = replaced new p k b e in solid r.class r.method b r.in_program r.in_class r.body

  -- one renaming for each method
  abbrev Named : Option NamedBody → Option NamedBody → Type 0
  Named o o' = (names : ℕ → ℕ) × ((b d : NamedBody) → o ≡ Some b → o' ≡ Some d → IsRenamed b d names)

  body_same : (b d : NamedBody) → Some b ≡ Some d → b ≡ d
  body_same b d e = ap (λ o. elim o as (λ o. NamedBody) [ Some z ↦ z | None ↦ b ]) e

  no_body : (b : NamedBody) {A : Type 0} → None ≡ Some b → A
  no_body b e = clash true refl (ap (λ o. elim o as (λ o. Bool) [ Some z ↦ false | None ↦ true ]) e)

  chosen : (k : MethodKey) → Named (find k) (other k)
  chosen k = at (find k) (other k) refl refl
    where
      at : (o o' : Option NamedBody) → find k ≡ o → other k ≡ o' → Named o o'
      at None o' e e' = (λ r. r, λ b d i j. no_body b i)
      at (Some b) None e e' = (λ r. r, λ c d i j. no_body d j)
      at (Some b) (Some d) e e' = let h = renamed_in k b d e e' in (h.0, λ c q i j. subst₂ (λ x y. IsRenamed x y h.0) (body_same b c i) (body_same d q j) h.1)

  abbrev names_of : MethodKey → ℕ → ℕ
  names_of k = (chosen k).0

  in_place : (s : Setting) → IsInPlace s find other (Lives find names_of) (λ t. Unit {0})
  in_place s = record {
    none = none_replaced new p all.code;
    some = some_replaced new p all.code;
    ins = λ k b d e e'. ((chosen k).1 b d e e').ins;
    regions = λ k b d e e'. ((chosen k).1 b d e e').regions;
    fields = λ k b e. (solid_in k b e).fields;
    ends = λ k b d n e e' x. there s find other names_of k b d e e' ((chosen k).1 b d e e') (solid_in k b e) n ∙ ap (option_map (remade (names_of k) (names_of k) (λ t. t))) x;
    forms = λ k b d n f e e' r x. (
      remade (names_of k) (names_of k) (λ t. t) f,
      (
        there s find other names_of k b d e e' ((chosen k).1 b d e e') (solid_in k b e) n ∙ ap (option_map (remade (names_of k) (names_of k) (λ t. t))) x,
        fits s find other names_of k b d e e' ((chosen k).1 b d e e') (solid_in k b e) n f x,
      ),
    );
    entry = λ k b d vs o y e e' l h. entry s find other names_of k b d e e' ((chosen k).1 b d e e') (solid_in k b e) vs o y h;
    keeps = λ t i. tt;
  }

  pub renamed_shown : (o : Outer) → SameShown p (changed new p) o
  renamed_shown o = in_place_always p (changed new p) o (Lives find names_of) (λ f. sym (face_same new p all.code f)) (λ f a script h. in_place (setting_of p o f a))
