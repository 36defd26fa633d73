-- What is read of class data stands there.
use Rattle.std.proofs.Common.{◌≡◌, ◌<◌, ◌⊎◌, inl, inr, ℕ, suc, ◌+◌, Bool, true, false, ltb, eqb, List, [], ◌∷◌, length, map, refl, sym, ap, subst, ◌∙◌}
use Rattle.std.specs.Prelude.{◌||◌}
use Rattle.std.specs.List.{AllByRecursion}
use Rattle.std.proofs.lemmas.Bool.{ltb-true, eqb-true}
use Rattle.std.proofs.lemmas.List.{length-map}
use Rattle.dex_base.specs.Leb.{IsUlebAt}
use Rattle.dex_pools.specs.Finds.{RunOf}
use Rattle.program_model.specs.declared.program.Program.{Program}
use Rattle.dex_defs.specs.ClassData.{Entry, IsFieldEntry, IsMethodEntry, EntriesTo}
use Rattle.dex_read.specs.declared.class_data.Listed.{Listed}
use Rattle.dex_read.specs.declared.members.Owner.{Owner}
use Rattle.dex_read.specs.Ascending.{Rises}
use Rattle.dex_read.specs.ClassData.{stepped_at, ascends_at, field_entry_at, method_entry_at, field_suits, method_suits, field_at, method_at, fields_at, methods_at, members_at}
use Rattle.dex_read.specs.Tables.{sizes_in}
use Rattle.file_laws.specs.Founds.{Founds}
use Rattle.file_laws.specs.ClassData.{entry_of, FieldSuits, MethodSuits, AreMembers}
use Rattle.file_laws.proofs.Words.{finds_number}
use Rattle.file_laws.proofs.Founding.{known, weaker, done, when, next, founds_run}

-- ---- one entry

pub record IsStep (bytes : List ℕ) (size before at : ℕ) (r : ℕ × ℕ) : Type 0 where
  pub step : ℕ
  pub is_step : IsUlebAt bytes at (step, r.1)
  pub number : r.0 ≡ before + step
  pub below : r.0 < size

pub founds_step : (bytes : List ℕ) (size before at : ℕ) → Founds (IsStep bytes size before at) (stepped_at bytes size before at)
unfolding stepped_at
founds_step bytes size before at = weaker (stepped_at bytes size before at)
    (next (known (finds_number bytes at)) (λ step _. when _ (done (before + step.0, step.1))))
    (λ y p. rw p.2.1 (record { step = p.0.0; is_step = p.1; number = refl; below = ltb-true _ _ p.2.0 }))

abbrev pub IsNext : ℕ → ℕ → ℕ → Type 0
IsNext place before number = (place ≡ 0) ⊎ (before < number)

by_order : (a b : Bool) {A B : Type 0} → (a || b) ≡ true → (a ≡ true → A) → (b ≡ true → B) → A ⊎ B
by_order true b h f g = inl (f refl)
by_order false b h f g = inr (g h)

founds_order : (place before number : ℕ) → Founds (λ u. IsNext place before number) (ascends_at place before number)
unfolding ascends_at
founds_order place before number = weaker (ascends_at place before number) (when _ (done tt)) (λ y p. by_order (eqb place 0) (ltb before number) p.0 (eqb-true place 0) (ltb-true before number))

pub record IsListed (Is : Entry → ℕ → Type 0) (size place : ℕ) (s : ℕ × ℕ) (r : Listed × (ℕ × ℕ)) : Type 0 where
  pub is : Is (entry_of r.0) r.1.0
  pub number : r.1.1 ≡ r.0.number
  pub below : r.0.number < size
  pub order : IsNext place s.1 r.0.number

pub founds_field_entry : (bytes : List ℕ) (size place : ℕ) (s : ℕ × ℕ) → Founds (IsListed (IsFieldEntry bytes s.1 s.0) size place s) (field_entry_at bytes size place s)
unfolding field_entry_at
founds_field_entry bytes size place s = weaker (field_entry_at bytes size place s)
    (next (founds_step bytes size s.1 s.0) (λ number _. next (known (finds_number bytes number.1)) (λ flags _. next (founds_order place s.1 number.0) (λ order _. done (record { number = number.0; flags = record { 0 = flags.0 }; code = 0 }, (flags.1, number.0))))))
    (λ y p. rw p.2.2.2 (record {
      is = record { step = p.1.step; mid = p.0.1; is_step = p.1.is_step; flags = p.2.1; number = p.1.number; code = refl };
      number = refl;
      below = p.1.below;
      order = p.2.2.1;
    }))

pub founds_method_entry : (bytes : List ℕ) (size place : ℕ) (s : ℕ × ℕ) → Founds (IsListed (IsMethodEntry bytes s.1 s.0) size place s) (method_entry_at bytes size place s)
unfolding method_entry_at
founds_method_entry bytes size place s = weaker (method_entry_at bytes size place s)
    (next (founds_step bytes size s.1 s.0) (λ number _. next (known (finds_number bytes number.1)) (λ flags _. next (known (finds_number bytes flags.1)) (λ code _. next (founds_order place s.1 number.0) (λ order _. done (record { number = number.0; flags = record { 0 = flags.0 }; code = code.0 }, (code.1, number.0)))))))
    (λ y p. rw p.2.2.2.2 (record {
      is = record { step = p.1.step; mid = p.0.1; next = p.2.0.1; is_step = p.1.is_step; flags = p.2.1; code = p.2.2.1; number = p.1.number };
      number = refl;
      below = p.1.below;
      order = p.2.2.2.1;
    }))

-- ---- the four lists

abbrev pub OfField : List ℕ → Program → Owner → Bool → List Listed → ℕ → ℕ × ℕ → Listed × (ℕ × ℕ) → Type 0
OfField bytes p owner static earlier place s r = IsListed (IsFieldEntry bytes s.1 s.0) (sizes_in p).fields place s r × (field_suits p owner.kind static earlier r.0 ≡ true)

abbrev pub OfMethod : List ℕ → Program → Owner → Bool → List Listed → ℕ → ℕ × ℕ → Listed × (ℕ × ℕ) → Type 0
OfMethod bytes p owner direct earlier place s r = IsListed (IsMethodEntry bytes s.1 s.0) (sizes_in p).methods place s r × (method_suits p owner.kind direct earlier r.0 ≡ true)

pub founds_field : (bytes : List ℕ) (p : Program) (owner : Owner) (static : Bool) (earlier : List Listed) (place : ℕ) (s : ℕ × ℕ) → Founds (OfField bytes p owner static earlier place s) (field_at bytes p owner static earlier place s)
unfolding field_at
founds_field bytes p owner static earlier place s = weaker (field_at bytes p owner static earlier place s)
    (next (founds_field_entry bytes (sizes_in p).fields place s) (λ e _. when _ (done e)))
    (λ y q. rw q.2.1 (q.1, q.2.0))

pub founds_method : (bytes : List ℕ) (p : Program) (owner : Owner) (direct : Bool) (earlier : List Listed) (place : ℕ) (s : ℕ × ℕ) → Founds (OfMethod bytes p owner direct earlier place s) (method_at bytes p owner direct earlier place s)
unfolding method_at
founds_method bytes p owner direct earlier place s = weaker (method_at bytes p owner direct earlier place s)
    (next (founds_method_entry bytes (sizes_in p).methods place s) (λ e _. when _ (done e)))
    (λ y q. rw q.2.1 (q.1, q.2.0))

-- entries one behind another, as the definitions have them
pub record AreListed (Is : ℕ → ℕ → Entry → ℕ → Type 0) (Suits : Listed → Type 0) (from before at : ℕ) (xs : List Listed) (stop : ℕ) : Type 0 where
  pub entries : EntriesTo Is before at (map entry_of xs) stop
  pub suit : AllByRecursion Suits xs
  pub rise : Rises from before xs

listed : (Is : ℕ → ℕ → Entry → ℕ → Type 0) (size : ℕ) (Suits : Listed → Type 0) (from : ℕ) (s : ℕ × ℕ) (xs : List Listed) (stop : ℕ × ℕ)
    → RunOf (λ place s r. IsListed (Is s.1 s.0) size place s r × Suits r.0) from s xs stop → AreListed Is (λ e. (e.number < size) × Suits e) from s.1 s.0 xs stop.0
listed Is size Suits from s [] stop h = record { entries = ap (λ (t : ℕ × ℕ). t.0) h; suit = tt; rise = tt }
listed Is size Suits from s (x ∷ xs) stop h =
    let rest : AreListed Is (λ e. (e.number < size) × Suits e) (suc from) x.number h.0.0 xs stop.0
    = subst (λ n. AreListed Is (λ e. (e.number < size) × Suits e) (suc from) n h.0.0 xs stop.0) h.1.0.number (listed Is size Suits (suc from) h.0 xs stop h.2) in
    record { entries = (h.0.0, h.1.0.is, rest.entries); suit = ((h.1.0.below, h.1.1), rest.suit); rise = (h.1.0.order, rest.rise) }

pub record IsList (Is : ℕ → ℕ → Entry → ℕ → Type 0) (Suits : Listed → Type 0) (count at : ℕ) (r : List Listed × (ℕ × ℕ)) : Type 0 where
  pub many : length (map entry_of r.0) ≡ count
  pub are : AreListed Is Suits 0 0 at r.0 r.1.0

pub founds_fields : (bytes : List ℕ) (p : Program) (owner : Owner) (static : Bool) (earlier : List Listed) (count at : ℕ)
    → Founds (IsList (IsFieldEntry bytes) (FieldSuits p owner static earlier) count at) (fields_at bytes p owner static earlier count at)
founds_fields bytes p owner static earlier count at = weaker (fields_at bytes p owner static earlier count at)
    (founds_run (OfField bytes p owner static earlier) (field_at bytes p owner static earlier) (founds_field bytes p owner static earlier) 0 count (at, 0))
    (λ y q. record { many = length-map y.0 entry_of ∙ q.0; are = listed (IsFieldEntry bytes) (sizes_in p).fields (λ e. field_suits p owner.kind static earlier e ≡ true) 0 (at, 0) y.0 y.1 q.1 })

pub founds_methods : (bytes : List ℕ) (p : Program) (owner : Owner) (direct : Bool) (earlier : List Listed) (count at : ℕ)
    → Founds (IsList (IsMethodEntry bytes) (MethodSuits p owner direct earlier) count at) (methods_at bytes p owner direct earlier count at)
founds_methods bytes p owner direct earlier count at = weaker (methods_at bytes p owner direct earlier count at)
    (founds_run (OfMethod bytes p owner direct earlier) (method_at bytes p owner direct earlier) (founds_method bytes p owner direct earlier) 0 count (at, 0))
    (λ y q. record { many = length-map y.0 entry_of ∙ q.0; are = listed (IsMethodEntry bytes) (sizes_in p).methods (λ e. method_suits p owner.kind direct earlier e ≡ true) 0 (at, 0) y.0 y.1 q.1 })

-- ---- the whole

counted : (bytes : List ℕ) (at n m stop : ℕ) → m ≡ n → IsUlebAt bytes at (n, stop) → IsUlebAt bytes at (m, stop)
counted bytes at n m stop e h = subst (λ k. IsUlebAt bytes at (k, stop)) (sym e) h

pub founds_members : (bytes : List ℕ) (p : Program) (owner : Owner) (at : ℕ) → Founds (AreMembers bytes p owner at) (members_at bytes p owner at)
unfolding members_at
founds_members bytes p owner at = weaker (members_at bytes p owner at)
    (next (known (finds_number bytes at)) (λ static_count _.
    next (known (finds_number bytes static_count.1)) (λ instance_count _.
    next (known (finds_number bytes instance_count.1)) (λ direct_count _.
    next (known (finds_number bytes direct_count.1)) (λ virtual_count _.
    next (founds_fields bytes p owner true [] static_count.0 virtual_count.1) (λ statics _.
    next (founds_fields bytes p owner false statics.0 instance_count.0 statics.1.0) (λ instances _.
    next (founds_methods bytes p owner true [] direct_count.0 instances.1.0) (λ directs _.
    next (founds_methods bytes p owner false directs.0 virtual_count.0 directs.1.0) (λ virtuals _.
    done (record { statics = statics.0; instances = instances.0; directs = directs.0; virtuals = virtuals.0 }))))))))))
    (λ y q.
    let q2 = q.2 in let q3 = q2.2 in let q4 = q3.2 in let statics = q4.2 in let instances = statics.2 in let directs = instances.2 in let virtuals = directs.2 in
    rw virtuals.2 (record {
      stop = virtuals.0.1.0;
      data_is = record {
        begin = q4.0.1;
        instances_at = statics.0.1.0;
        directs_at = instances.0.1.0;
        virtuals_at = directs.0.1.0;
        counts = record {
          second = q.0.1;
          third = q2.0.1;
          fourth = q3.0.1;
          statics = counted bytes at q.0.0 (length (map entry_of statics.0.0)) q.0.1 statics.1.many q.1;
          instances = counted bytes q.0.1 q2.0.0 (length (map entry_of instances.0.0)) q2.0.1 instances.1.many q2.1;
          directs = counted bytes q2.0.1 q3.0.0 (length (map entry_of directs.0.0)) q3.0.1 directs.1.many q3.1;
          virtuals = counted bytes q3.0.1 q4.0.0 (length (map entry_of virtuals.0.0)) q4.0.1 virtuals.1.many q4.1;
        };
        statics = statics.1.are.entries;
        instances = instances.1.are.entries;
        directs = directs.1.are.entries;
        virtuals = virtuals.1.are.entries;
      };
      statics = statics.1.are.suit;
      instances = instances.1.are.suit;
      directs = directs.1.are.suit;
      virtuals = virtuals.1.are.suit;
      ascend = record {
        statics = record { rises = statics.1.are.rise };
        instances = record { rises = instances.1.are.rise };
        directs = record { rises = directs.1.are.rise };
        virtuals = record { rises = virtuals.1.are.rise };
      };
    }))
