-- `HasDone` and `Ends`: what the steps of a run keep, and how each of them ends it.
use Rattle.std.proofs.Common.{◌≡◌, ◌≤◌, ◌<◌, ◌++◌, ◌⊎◌, inl, inr, ℕ, Bool, true, false, List, [], ◌∷◌, length, Option}
use Rattle.std.proofs.Common.{Some, None, Result, Ok, Err, IfSome, sym, ◌∙◌, ap, subst, refl, arith, append-nil}
use Rattle.std.proofs.Common.{length-append}
use Rattle.std.specs.Prelude.{Vec, is_some, option_and_then, ◌↔◌, IfOk}
use Rattle.std.specs.declared.alloc.Global.{Global}
use Rattle.std.proofs.lemmas.Option.{IfSome_then, MatchOption-at_some}
use Rattle.frag_io.specs.declared.desk.Slot.{Slot}
use Rattle.frag_io.specs.declared.desk.Slot.TheVariants.{Profile}
use Rattle.frag_io.specs.declared.whole.ReadWhole.{ReadWhole}
use Rattle.frag_io.specs.declared.whole.ReadWhole.TheVariants as Read
use Rattle.frag_io.specs.declared.desk.DeskFault.{DeskFault}
use Rattle.frag_io.specs.declared.desk.DeskFault.TheVariants as Fault
use Rattle.frag_io.specs.DeskState.{DeskState}
use Rattle.frag_io.specs.Desk.{IsCounted, IsEmpty, IsNamed, Keeps}
use Rattle.frag_io.specs.Slot.{Gains, IsRead, IsWritten, Same, is_read}
use Rattle.frag_io.specs.Whole.{ReadsWhole}
use Rattle.profile.specs.declared.fault.ProfileFault.{ProfileFault}
use Rattle.profile.specs.declared.fault.ProfileError.{ProfileError}
use Rattle.profile.specs.declared.fault.ProfileError.TheVariants as P
use Rattle.run_plan.specs.ProfileTaken.{status_of_error}
use Rattle.run_plan.specs.Plan.{HasBegun, Step, begin, read, write, finish, is_finish_of, is_finished_in, is_next}
use Rattle.run_plan.specs.Plan.{is_read_in, is_read_of, is_same_slot, is_write_to, is_written_in, name_in, text_in}
use Rattle.run_plan.specs.Causes.{CauseOf, IsUnwritten}
use Rattle.run_plan.specs.Class.{Class, class_of, no_order, ended, refused, memory, open_fault, read_fault, write_fault}
use Rattle.run_plan.specs.Class.{too_long, IsAnswer, StopsAt}
use Rattle.run_plan.specs.Limits.{AreWithinLimits, FitsLimit, IsLeft, greatest_text_of}
use Rattle.run_plan.specs.Running.{Ends, HasDone, open_status_of, read_status_of, write_status_of}
use Rattle.run_plan.specs.declared.status.Status.{Status}
use Rattle.run_plan.specs.declared.status.Status.TheVariants.{Memory, OpenFault, ProfileRefused, ReadFault, WriteFault}
use Rattle.run_plan.specs.declared.status.Status.TheVariants.{TooLong}
use Rattle.run_plan.proofs.Plan.{any_new, any_same, is_same_slot-own, name_in-earlier, name_in-other, name_in-own}
use Rattle.run_plan.proofs.Plan.{name_in-same, none_in, not_both, same_slot, slot_differs, slot_is, some_in, text_on}

-- a fact of the value in an option, where the value may be named
pub at_some : {A : Type 0} (o : Option A) (P : A → Type 0) → ((x : A) → o ≡ Some x → P x) → IfSome o P
at_some None P f = tt
at_some (Some x) P f = f x refl

no_read : false ≡ true → ⊥
no_read is = cc

both_kinds : (slot : Slot) → IsRead slot → IsWritten slot → ⊥
both_kinds slot reads writes = no_read (sym writes ∙ reads)

past : (many limit : ℕ) → many ≤ limit → limit < many → ⊥
past many limit few more = omega arith

-- what is left of a text fits each class that does not call it too long
pub fits : (done : Bool) (slot : Slot) (text : List ℕ) (left : Option (List ℕ)) (class : Class) → IsLeft done slot
    text left
    → (class ≡ too_long slot → ⊥) → FitsLimit slot text left class
fits true slot text left class is other =
    (text, [], is.0, sym (append-nil text), ((λ told. absurd (other told)), λ more. absurd (past _ _ is.1 more)))
fits false slot text left class is other =
    ([], text, is, refl, ((λ told. absurd (other told)), λ more. absurd (none (greatest_text_of slot) more)))
  where
    none : (limit : ℕ) → limit < 0 → ⊥
    none limit more = omega arith

-- a call that leaves the bytes of its own slot leaves those of each
pub same_bytes : (old now : DeskState) (slot : Slot) → now.written slot ≡ old.written slot → Keeps slot old now
    → (other : Slot) → now.written other ≡ old.written other
same_bytes old now slot unchanged keeps other = elim (same_slot slot other) [
  | inl own ↦ subst (λ s. now.written s ≡ old.written s) own unchanged
  | inr differs ↦ keeps.others_written other differs.1
]

-- counts of a later part of a run are counts of all of it
pub counted_since : (slot : Slot) (before old now : DeskState) → before.faults slot ≤ old.faults slot → IsCounted slot
    old now → IsCounted slot before now
counted_since slot before old now rose counted = omega (arith, rose, counted)

-- the same slots begun under the same names, behind a step that begins none
pub begun_on : (done : List Step) (step : Step) (old now : DeskState) → ((slot : Slot) → name_in (step ∷ []) slot ≡
    None)
    → HasBegun done old → Same old.begun now.begun → Same old.names now.names → HasBegun (done ++ step ∷ []) now
begun_on done step old now none begun same names = record {
  slots = λ slot. same slot ∙ begun.slots slot ∙ sym (ap is_some (name_in-same done step slot (none slot)));
  names = λ slot. subst (λ o. IfSome o (λ name. IsNamed slot name now)) (sym (name_in-same done step slot (none slot)))
      (IfSome_then (name_in done slot) (begun.names slot) (λ n told. subst (λ t. IfSome t (λ x. x ≡ n)) (sym (names
      slot)) told));
}

pub begun_still : (done : List Step) (old now : DeskState) → HasBegun done old → Same old.begun now.begun
    → Same old.names now.names → HasBegun done now
begun_still done old now begun same names = record {
  slots = λ slot. same slot ∙ begun.slots slot;
  names = λ slot. IfSome_then (name_in done slot) (begun.names slot) (λ n told. subst (λ t. IfSome t (λ x. x ≡ n))
      (sym (names slot)) told);
}

-- a slot that was not begun was not finished
pub unfinished : (begun finished : Bool) → (finished ≡ true → begun ≡ true) → begun ≡ false → finished ≡ false
unfinished begun true opened not = absurd (not_both begun not (opened refl))
unfinished begun false opened not = refl

-- before a run nothing was done
pub done_nothing : (now : DeskState) → ((slot : Slot) → now.begun slot ≡ false) → ((slot : Slot) → now.finished slot ≡
    false)
    → IsUnwritten now → HasDone [] now now
done_nothing now fresh unfinished unwritten = record {
  begun = record { slots = fresh; names = λ slot. tt };
  finished = unfinished;
  opened = λ slot is. absurd (no_read is);
  left = λ slot is_text. tt;
  unwritten = λ slot written other. unwritten slot written;
  gives = λ name. refl;
  counts = λ slot. omega arith;
}

-- a slot that was not begun was not read
pub unread : (done : List Step) (before now : DeskState) (slot : Slot) → HasDone done before now → now.begun slot ≡
    false
    → is_read_in done slot ≡ false
unread done before now slot did fresh = by_test (is_read_in done slot) refl
  where
    by_test : (test : Bool) → is_read_in done slot ≡ test → is_read_in done slot ≡ false
    by_test false is = is
    by_test true is = absurd (not_both (now.begun slot) fresh (did.opened slot is))

-- a run that begins one slot more
pub done_begin : (done : List Step) (before old now : DeskState) (slot : Slot) (name : List ℕ)
    → HasDone done before old → old.begun slot ≡ false → Gains slot old.begun now.begun → Same old.finished now.finished
    → IsNamed slot name now → (IsRead slot → now.left slot ≡ old.gives name) → (IsWritten slot → IsEmpty (now.written
    slot))
    → Keeps slot old now → HasDone (done ++ begin slot name ∷ []) before now
done_begin done before old now slot name did fresh gains same named left empty keeps = record {
  begun = record { slots = slots; names = names };
  finished = λ other. same other ∙ did.finished other ∙ sym (any_same (is_finish_of other) done (begin slot name) refl);
  opened = opened;
  left = texts;
  unwritten = λ other written none. elim (same_slot slot other) [
    | inl is ↦ subst (λ s. IsWritten s → IsEmpty (now.written s)) is empty written
    | inr differs ↦ subst IsEmpty (sym (keeps.others_written other differs.1))
        (did.unwritten other written (sym (any_same (is_write_to other) done (begin slot name) refl) ∙ none))
  ];
  gives = λ n. keeps.gives n ∙ did.gives n;
  counts = λ s. omega (arith, did.counts s, keeps.counts s);
}
  where
    own : name_in (done ++ begin slot name ∷ []) slot ≡ Some name
    own = name_in-own done slot name (none_in (name_in done slot) (sym (did.begun.slots slot) ∙ fresh))

    others : (other : Slot) → is_same_slot slot other ≡ false → name_in (done ++ begin slot name ∷ []) other ≡ name_in
        done other
    others other differs = name_in-other done slot other name differs

    slots : (other : Slot) → now.begun other ≡ is_some (name_in (done ++ begin slot name ∷ []) other)
    slots other = elim (same_slot slot other) [
      | inl is ↦ subst (λ s. now.begun s ≡ is_some (name_in (done ++ begin slot name ∷ []) s)) is (gains.added ∙ sym
          (ap is_some own))
      | inr differs ↦ gains.others other differs.1 ∙ did.begun.slots other ∙ sym (ap is_some (others other differs.0))
    ]

    names : (other : Slot) → IfSome (name_in (done ++ begin slot name ∷ []) other) (λ n. IsNamed other n now)
    names other = elim (same_slot slot other) [
      | inl is ↦ subst (λ s. IfSome (name_in (done ++ begin slot name ∷ []) s) (λ n. IsNamed s n now)) is
          (subst (λ o. IfSome o (λ n. IsNamed slot n now)) (sym own) named)
      | inr differs ↦ subst (λ o. IfSome o (λ n. IsNamed other n now)) (sym (others other differs.0))
          (IfSome_then (name_in done other) (did.begun.names other)
          (λ n told. subst (λ t. IfSome t (λ x. x ≡ n)) (sym (keeps.others_named other differs.1)) told))
    ]

    same_reads : (other : Slot) → is_read_in (done ++ begin slot name ∷ []) other ≡ is_read_in done other
    same_reads other = any_same (is_read_of other) done (begin slot name) refl

    opened : (other : Slot) → is_read_in (done ++ begin slot name ∷ []) other ≡ true → now.begun other ≡ true
    opened other is = elim (same_slot slot other) [
      | inl own_slot ↦ subst (λ s. now.begun s ≡ true) own_slot gains.added
      | inr differs ↦ gains.others other differs.1 ∙ did.opened other (sym (same_reads other) ∙ is)
    ]

    own_text : IsRead slot → IfSome (before.gives name) (λ text. IsLeft (is_read_in (done ++ begin slot name ∷ [])
        slot) slot text (now.left slot))
    own_text is_text = at_some (before.gives name) (λ text. IsLeft (is_read_in (done ++ begin slot name ∷ []) slot)
        slot text (now.left slot))
        (λ text told. subst (λ test. IsLeft test slot text (now.left slot))
        (sym (same_reads slot ∙ unread done before old slot did fresh)) (left is_text ∙ did.gives name ∙ told))

    texts : (other : Slot) → IsRead other
        → IfSome (text_in (done ++ begin slot name ∷ []) before other) (λ text. IsLeft (is_read_in (done ++ begin slot
        name ∷ []) other) other text (now.left other))
    texts other is_read_slot = elim (same_slot slot other) [
      | inl is ↦ subst (λ s. IsRead s → IfSome (text_in (done ++ begin slot name ∷ []) before s)
          (λ text. IsLeft (is_read_in (done ++ begin slot name ∷ []) s) s text (now.left s))) is
          (λ own_read. subst (λ o. IfSome (option_and_then before.gives o)
          (λ text. IsLeft (is_read_in (done ++ begin slot name ∷ []) slot) slot text (now.left slot))) (sym own)
          (own_text own_read)) is_read_slot
      | inr differs ↦ subst (λ o. IfSome (option_and_then before.gives o)
          (λ text. IsLeft (is_read_in (done ++ begin slot name ∷ []) other) other text (now.left other))) (sym (others
          other differs.0))
          (IfSome_then (text_in done before other) (did.left other is_read_slot) (λ text is.
          subst (λ test. IsLeft test other text (now.left other)) (sym (same_reads other))
          (subst (λ l. IsLeft (is_read_in done other) other text l) (sym (keeps.others_left other differs.1)) is)))
    ]

-- a run that reads a slot whole, within its limit
pub done_read : (done : List Step) (before old now : DeskState) (slot : Slot) (result : Result (Vec ℕ Global)
    ReadWhole) (bytes : Vec ℕ Global)
    → HasDone done before old → IsRead slot → is_read_in done slot ≡ false → old.begun slot ≡ true
    → Same old.begun now.begun → Same old.finished now.finished → Same old.names now.names → Keeps slot old now
    → IfSome (old.left slot) (ReadsWhole (greatest_text_of slot) (now.left slot) result) → result ≡ Ok bytes
    → length bytes.items ≤ greatest_text_of slot
    → HasDone (done ++ read slot ∷ []) before now
done_read done before old now slot result bytes did is_read_slot first begun same_begun same_finished names keeps
    reads is_ok short = record {
      begun = begun_on done (read slot) old now (λ other. refl) did.begun same_begun names;
      finished = λ other. same_finished other ∙ did.finished other ∙ sym (any_same (is_finish_of other) done (read slot)
          refl);
      opened = λ other is. elim (same_slot slot other) [
        | inl own ↦ subst (λ s. now.begun s ≡ true) own (same_begun slot ∙ begun)
        | inr differs ↦ same_begun other ∙ did.opened other
            (sym (any_same (is_read_of other) done (read slot) differs.0) ∙ is)
      ];
      left = λ other other_read. elim (same_slot slot other) [
        | inl own ↦ subst (λ s. IfSome (text_in (done ++ read slot ∷ []) before s) (λ text. IsLeft (is_read_in (done ++
            read slot ∷ []) s) s text (now.left s))) own own_text
        | inr differs ↦ text_on done (read slot) before other
            (λ text. IsLeft (is_read_in (done ++ read slot ∷ []) other) other text (now.left other)) refl
            (IfSome_then (text_in done before other) (did.left other other_read) (λ text is.
            subst (λ test. IsLeft test other text (now.left other)) (sym (any_same (is_read_of other) done (read slot)
            differs.0))
            (subst (λ l. IsLeft (is_read_in done other) other text l) (sym (keeps.others_left other differs.1)) is)))
      ];
      unwritten = λ other written none. subst IsEmpty
          (sym (keeps.others_written other (λ is. both_kinds other (ap is_read is ∙ is_read_slot) written)))
          (did.unwritten other written (sym (any_same (is_write_to other) done (read slot) refl) ∙ none));
      gives = λ n. keeps.gives n ∙ did.gives n;
      counts = λ s. omega (arith, did.counts s, keeps.counts s);
    }
  where
    told : (text : List ℕ) → old.left slot ≡ Some text → (text ≡ bytes.items) × (now.left slot ≡ Some [])
    told text is =
        let all = MatchOption-at_some _ (ReadsWhole (greatest_text_of slot) (now.left slot) result) text is reads in
        let whole = subst (λ r. IfOk r (λ items. (items.items ≡ all.read) × (all.rest ≡ []))) is_ok all.whole in (
          all.parts ∙ ap (λ (rest : List ℕ). all.read ++ rest) whole.1 ∙ append-nil all.read ∙ sym whole.0,
          all.rest_is_left ∙ ap Some whole.1,
        )

    own_text : IfSome (text_in (done ++ read slot ∷ []) before slot) (λ text. IsLeft (is_read_in (done ++ read slot ∷
        []) slot) slot text (now.left slot))
    own_text = text_on done (read slot) before slot (λ text. IsLeft (is_read_in (done ++ read slot ∷ []) slot) slot
        text (now.left slot)) refl
        (IfSome_then (text_in done before slot) (did.left slot is_read_slot) (λ text is.
        let left : IsLeft false slot text (old.left slot) = subst (λ test. IsLeft test slot text (old.left slot))
        first is in
        let all = told text left in
        subst (λ test. IsLeft test slot text (now.left slot))
        (sym (any_new (is_read_of slot) done (read slot) (is_same_slot-own slot)))
        (all.1, subst (λ (items : List ℕ). length items ≤ greatest_text_of slot) (sym all.0) short)))

-- a run through a call on a written slot, as a step that reads and begins none
done_with : (done : List Step) (step : Step) (before old now : DeskState) (slot : Slot)
    → ((other : Slot) → name_in (step ∷ []) other ≡ None) → ((other : Slot) → is_read_of other step ≡ false)
    → HasDone done before old → IsWritten slot
    → Same old.begun now.begun → Same old.names now.names → Keeps slot old now
    → ((other : Slot) → now.finished other ≡ is_finished_in (done ++ step ∷ []) other)
    → ((other : Slot) → IsWritten other → is_written_in (done ++ step ∷ []) other ≡ false → IsEmpty (now.written other))
    → HasDone (done ++ step ∷ []) before now
done_with done step before old now slot no_name no_text did written same_begun names keeps finished unwritten = record {
  begun = begun_on done step old now no_name did.begun same_begun names;
  finished = finished;
  opened = λ other is. same_begun other ∙ did.opened other (sym (any_same (is_read_of other) done step (no_text
      other)) ∙ is);
  left = λ other other_read. text_on done step before other (λ text. IsLeft (is_read_in (done ++ step ∷ []) other)
      other text (now.left other)) (no_name other)
      (IfSome_then (text_in done before other) (did.left other other_read) (λ text is.
      subst (λ test. IsLeft test other text (now.left other)) (sym (any_same (is_read_of other) done step (no_text
      other)))
      (subst (λ l. IsLeft (is_read_in done other) other text l)
      (sym (keeps.others_left other (λ own. both_kinds slot (sym (ap is_read own) ∙ other_read) written))) is)));
  unwritten = unwritten;
  gives = λ n. keeps.gives n ∙ did.gives n;
  counts = λ s. omega (arith, did.counts s, keeps.counts s);
}

-- a run that writes to a slot
pub done_write : (done : List Step) (before old now : DeskState) (slot : Slot)
    → HasDone done before old → IsWritten slot
    → Same old.begun now.begun → Same old.finished now.finished → Same old.names now.names → Keeps slot old now
    → HasDone (done ++ write slot ∷ []) before now
done_write done before old now slot did written same_begun same_finished names keeps =
    done_with done (write slot) before old now slot (λ other. refl) (λ other. refl) did written same_begun names keeps
    (λ other. same_finished other ∙ did.finished other ∙ sym (any_same (is_finish_of other) done (write slot) refl))
    (λ other other_written none. elim (same_slot slot other) [
      | inl own ↦ absurd (not_both (is_written_in (done ++ write slot ∷ []) other) none
          (any_new (is_write_to other) done (write slot) (subst (λ s. is_same_slot slot s ≡ true) own
          (is_same_slot-own slot))))
      | inr differs ↦ subst IsEmpty (sym (keeps.others_written other differs.1))
          (did.unwritten other other_written (sym (any_same (is_write_to other) done (write slot) differs.0) ∙ none))
    ])

-- a run that finishes a slot
pub done_finish : (done : List Step) (before old now : DeskState) (slot : Slot)
    → HasDone done before old → IsWritten slot
    → Same old.begun now.begun → Gains slot old.finished now.finished → Same old.names now.names → now.written slot ≡
    old.written slot
    → Keeps slot old now
    → HasDone (done ++ finish slot ∷ []) before now
done_finish done before old now slot did written same_begun gains names unchanged keeps =
    done_with done (finish slot) before old now slot (λ other. refl) (λ other. refl) did written same_begun names keeps
    (λ other. elim (same_slot slot other) [
      | inl own ↦ subst (λ s. now.finished s ≡ is_finished_in (done ++ finish slot ∷ []) s) own
          (gains.added ∙ sym (any_new (is_finish_of slot) done (finish slot) (is_same_slot-own slot)))
      | inr differs ↦ gains.others other differs.1 ∙ did.finished other ∙ sym (any_same (is_finish_of other) done
          (finish slot) differs.0)
    ])
    (λ other other_written none. subst IsEmpty (sym (same_bytes old now slot unchanged keeps other))
    (did.unwritten other other_written (sym (any_same (is_write_to other) done (finish slot) refl) ∙ none)))

-- texts within their limits are answered where no fault is counted and memory is there
answers_of : (done rest : List Step) (before now : DeskState) (class : Class) → StopsAt class done rest → HasBegun
    done now
    → ((slot : Slot) → IsRead slot → is_next (is_read_of slot) rest ≡ true
    → IfSome (text_in done before slot) (λ text. FitsLimit slot text (now.left slot) class))
    → CauseOf before now class → AreWithinLimits (done ++ rest) before → ((slot : Slot) → IsCounted slot before now → ⊥)
    → IsAnswer class ⊎ (class ≡ memory)
answers_of done rest before now no_order stop begun reached cause short none = absurd stop
answers_of done rest before now ended stop begun reached cause short none = inl tt
answers_of done rest before now (refused slot) stop begun reached cause short none = inl tt
answers_of done rest before now memory stop begun reached cause short none = inr refl
answers_of done rest before now (open_fault slot) stop begun reached cause short none = absurd (none slot cause.0)
answers_of done rest before now (read_fault slot) stop begun reached cause short none = absurd (none slot cause.1)
answers_of done rest before now (write_fault slot) stop begun reached cause short none = absurd (none slot cause.1)
answers_of done rest before now (too_long slot) stop begun reached cause short none =
    let named = some_in (name_in done slot) (sym (begun.slots slot) ∙ cause.1) in
    let told = MatchOption-at_some _ (λ name. (text : List ℕ) × (before.gives name ≡ Some text) × (length text ≤
    greatest_text_of slot)) named.0
    (name_in-earlier done rest slot named.0 named.1) (short slot cause.0) in
    let fit = MatchOption-at_some _ (λ text. FitsLimit slot text (now.left slot) (too_long slot)) told.0
    (ap (option_and_then before.gives) named.1 ∙ told.1) (reached slot cause.0 (ap (is_next (is_read_of slot)) stop.1
    ∙ is_same_slot-own slot)) in
    absurd (longer _ _ _ (greatest_text_of slot) fit.3 told.2 (fit.4.0 refl))
  where
    longer : (text read left : List ℕ) (limit : ℕ) → text ≡ read ++ left → length text ≤ limit → limit < length read → ⊥
    longer text front left limit parts few more = omega (arith, ap length parts ∙ length-append front left, few, more)

-- what a run over its plan owes at its end
pub ends_of : (done rest : List Step) (before now : DeskState) (status : Status)
    → StopsAt (class_of status) done rest → CauseOf before now (class_of status)
    → HasBegun done now → ((slot : Slot) → now.finished slot ≡ is_finished_in done slot)
    → ((slot : Slot) → IsRead slot → is_next (is_read_of slot) rest ≡ false
    → IfSome (text_in done before slot) (λ text. IsLeft (is_read_in done slot) slot text (now.left slot)))
    → ((slot : Slot) → IsRead slot → is_next (is_read_of slot) rest ≡ true
    → IfSome (text_in done before slot) (λ text. FitsLimit slot text (now.left slot) (class_of status)))
    → ((slot : Slot) → IsWritten slot → is_written_in done slot ≡ false → is_next (is_write_to slot) rest ≡ false →
    IsEmpty (now.written slot))
    → Ends (done ++ rest) before now status
ends_of done rest before now status stop cause begun finished left reached unwritten = record {
  causes = cause;
  steps = record {
    done = done;
    rest = rest;
    parts = refl;
    stop = stop;
    begun = begun;
    finished = finished;
    left = left;
    reached = reached;
    unwritten = unwritten;
    answers = λ short none. answers_of done rest before now (class_of status) stop begun reached cause short none;
  };
}

-- the end of a run that stands where its steps have brought it
pub done_ends : (done rest : List Step) (before now : DeskState) (status : Status) → HasDone done before now
    → StopsAt (class_of status) done rest → CauseOf before now (class_of status)
    → ((slot : Slot) → class_of status ≡ too_long slot → ⊥)
    → Ends (done ++ rest) before now status
done_ends done rest before now status did stop cause other =
    ends_of done rest before now status stop cause did.begun did.finished (λ slot is_text none. did.left slot is_text)
    (λ slot is_text next. IfSome_then (text_in done before slot) (did.left slot is_text)
    (λ text is. fits (is_read_in done slot) slot text (now.left slot) (class_of status) is (other slot)))
    (λ slot written none none_next. did.unwritten slot written none)

-- want of memory
pub memory_ends : (done rest : List Step) (before now : DeskState) → HasDone done before now → Ends (done ++ rest)
    before now Memory
memory_ends done rest before now did = done_ends done rest before now Memory did tt tt (λ slot told. cc)

-- a call that changed no more than counts leaves what was done
pub done_still : (done : List Step) (before old now : DeskState) (slot : Slot) → HasDone done before old → old.begun
    slot ≡ false
    → Same old.begun now.begun → Same old.finished now.finished → (IsWritten slot → IsEmpty (now.written slot)) →
    Keeps slot old now
    → HasDone done before now
done_still done before old now slot did fresh same_begun same_finished empty keeps = record {
  begun = record { slots = λ other. same_begun other ∙ did.begun.slots other; names = names };
  finished = λ other. same_finished other ∙ did.finished other;
  opened = λ other is. same_begun other ∙ did.opened other is;
  left = texts;
  unwritten = λ other written not_written. elim (same_slot slot other) [
    | inl own ↦ subst (λ s. IsWritten s → IsEmpty (now.written s)) own empty written
    | inr differs ↦ subst IsEmpty (sym (keeps.others_written other differs.1)) (did.unwritten other written not_written)
  ];
  gives = λ n. keeps.gives n ∙ did.gives n;
  counts = λ s. omega (arith, did.counts s, keeps.counts s);
}
  where
    none : name_in done slot ≡ None
    none = none_in (name_in done slot) (sym (did.begun.slots slot) ∙ fresh)

    names : (other : Slot) → IfSome (name_in done other) (λ name. IsNamed other name now)
    names other = elim (same_slot slot other) [
      | inl own ↦ subst (λ s. IfSome (name_in done s) (λ name. IsNamed s name now)) own
          (subst (λ o. IfSome o (λ name. IsNamed slot name now)) (sym none) tt)
      | inr differs ↦ IfSome_then (name_in done other) (did.begun.names other)
          (λ n told. subst (λ t. IfSome t (λ x. x ≡ n)) (sym (keeps.others_named other differs.1)) told)
    ]

    texts : (other : Slot) → IsRead other → IfSome (text_in done before other) (λ text. IsLeft (is_read_in done other)
        other text (now.left other))
    texts other other_read = elim (same_slot slot other) [
      | inl own ↦ subst (λ s. IfSome (text_in done before s) (λ text. IsLeft (is_read_in done s) s text (now.left s)))
          own
          (subst (λ o. IfSome (option_and_then before.gives o) (λ text. IsLeft (is_read_in done slot) slot text
          (now.left slot))) (sym none) tt)
      | inr differs ↦ IfSome_then (text_in done before other) (did.left other other_read)
          (λ text is. subst (λ l. IsLeft (is_read_in done other) other text l) (sym (keeps.others_left other
          differs.1)) is)
    ]

-- a slot that could not be begun, or there was no memory for it
pub unbegun_ends : (done later : List Step) (before old now : DeskState) (slot : Slot) (name : List ℕ) (fault :
    DeskFault)
    → HasDone done before old → old.begun slot ≡ false → Same old.begun now.begun → Same old.finished now.finished
    → (IsWritten slot → IsEmpty (now.written slot)) → Keeps slot old now → (fault ≡ Fault.Failed → IsCounted slot old
    now)
    → Ends (done ++ begin slot name ∷ later) before now (open_status_of slot fault)
unbegun_ends done later before old now slot name Fault.Failed did fresh same_begun same_finished empty keeps counted =
    done_ends done (begin slot name ∷ later) before now (OpenFault slot)
    (done_still done before old now slot did fresh same_begun same_finished empty keeps) (name, (later, refl))
    (counted_since slot before old now (did.counts slot) (counted refl), same_begun slot ∙ fresh) (λ other told. cc)
unbegun_ends done later before old now slot name Fault.OutOfMemory did fresh same_begun same_finished empty keeps
    counted =
    memory_ends done (begin slot name ∷ later) before now (done_still done before old now slot did fresh same_begun
    same_finished empty keeps)

-- the status of a slot that was not read whole
pub unread_ends : (done later : List Step) (before old now : DeskState) (slot : Slot) (status : Status) (result :
    Result (Vec ℕ Global) ReadWhole)
    → HasDone done before old → IsRead slot → is_read_in done slot ≡ false
    → Same old.begun now.begun → Same old.finished now.finished → Same old.names now.names → Keeps slot old now
    → IfSome (old.left slot) (ReadsWhole (greatest_text_of slot) (now.left slot) result)
    → ((class_of status ≡ too_long slot) ↔ (result ≡ Err Read.TooLong))
    → StopsAt (class_of status) done (read slot ∷ later) → CauseOf before now (class_of status)
    → Ends (done ++ read slot ∷ later) before now status
unread_ends done later before old now slot status result did is_read_slot first same_begun same_finished names keeps
    reads long stop cause =
    ends_of done (read slot ∷ later) before now status stop cause (begun_still done old now did.begun same_begun names)
    (λ other. same_finished other ∙ did.finished other)
    (λ other other_read differs. IfSome_then (text_in done before other) (did.left other other_read) (λ text is.
    subst (λ l. IsLeft (is_read_in done other) other text l) (sym (keeps.others_left other (slot_differs slot other
    differs))) is))
    (λ other other_read own. subst (λ s. IfSome (text_in done before s) (λ text. FitsLimit s text (now.left s)
    (class_of status)))
    (slot_is slot other own) own_text)
    (λ other written none none_next. subst IsEmpty (sym (keeps.others_written other (λ is. both_kinds other (ap
    is_read is ∙ is_read_slot) written)))
    (did.unwritten other written none))
  where
    own_text : IfSome (text_in done before slot) (λ text. FitsLimit slot text (now.left slot) (class_of status))
    own_text = IfSome_then (text_in done before slot) (did.left slot is_read_slot) (λ text is.
        let left : old.left slot ≡ Some text = subst (λ test. IsLeft test slot text (old.left slot)) first is in
        let all = MatchOption-at_some _ (ReadsWhole (greatest_text_of slot) (now.left slot) result) text left reads in (
          all.read,
          all.rest,
          all.rest_is_left,
          all.parts,
          (
            (λ told. all.too_long.0 (long.0 told)),
            λ more. long.1
                (all.too_long.1 more),
          ),
        ))

-- a slot whose reading failed, was too long, or lacked memory
pub error_of_read_ends : (done later : List Step) (before old now : DeskState) (slot : Slot) (fault : ReadWhole)
    (result : Result (Vec ℕ Global) ReadWhole)
    → HasDone done before old → IsRead slot → is_read_in done slot ≡ false → old.begun slot ≡ true
    → Same old.begun now.begun → Same old.finished now.finished → Same old.names now.names → Keeps slot old now
    → IfSome (old.left slot) (ReadsWhole (greatest_text_of slot) (now.left slot) result)
    → result ≡ Err fault → (result ≡ Err Read.Failed → IsCounted slot old now)
    → Ends (done ++ read slot ∷ later) before now (read_status_of slot fault)
error_of_read_ends done later before old now slot Read.Failed result did read_slot first begun same_begun
    same_finished names keeps reads is counted =
    unread_ends done later before old now slot (ReadFault slot) result did read_slot first same_begun same_finished
    names keeps reads
    ((λ told. cc), λ long. absurd (other (sym is ∙ long))) (later, refl)
    (read_slot, counted_since slot before old now (did.counts slot) (counted is), same_begun slot ∙ begun)
  where
    the_error : ReadWhole → Result (Vec ℕ Global) ReadWhole
    the_error fault = Err fault

    other : the_error Read.Failed ≡ the_error Read.TooLong → ⊥
    other told = cc
error_of_read_ends done later before old now slot Read.TooLong result did read_slot first begun same_begun
    same_finished names keeps reads is counted =
    unread_ends done later before old now slot (TooLong slot) result did read_slot first same_begun same_finished
    names keeps reads
    ((λ told. is), λ long. refl) (later, refl) (read_slot, same_begun slot ∙ begun)
error_of_read_ends done later before old now slot Read.OutOfMemory result did read_slot first begun same_begun
    same_finished names keeps reads is counted =
    unread_ends done later before old now slot Memory result did read_slot first same_begun same_finished names keeps
    reads
    ((λ told. cc), λ long. absurd (other (sym is ∙ long))) tt tt
  where
    the_error : ReadWhole → Result (Vec ℕ Global) ReadWhole
    the_error fault = Err fault

    other : the_error Read.OutOfMemory ≡ the_error Read.TooLong → ⊥
    other told = cc

-- a write to a slot that failed, or there was no memory for it
pub failed_write_ends : (done later : List Step) (before old now : DeskState) (slot : Slot) (fault : DeskFault)
    → HasDone done before old → IsWritten slot → old.begun slot ≡ true
    → Same old.begun now.begun → Same old.finished now.finished → Same old.names now.names → Keeps slot old now
    → (fault ≡ Fault.Failed → IsCounted slot old now)
    → Ends (done ++ write slot ∷ later) before now (write_status_of slot fault)
failed_write_ends done later before old now slot fault did written begun same_begun same_finished names keeps counted
    = by_fault fault counted
  where
    with_status : (status : Status) → StopsAt (class_of status) done (write slot ∷ later) → CauseOf before now
        (class_of status)
        → ((other : Slot) → class_of status ≡ too_long other → ⊥) → Ends (done ++ write slot ∷ later) before now status
    with_status status stop cause not_long =
        ends_of done (write slot ∷ later) before now status stop cause (begun_still done old now did.begun same_begun
        names)
        (λ other. same_finished other ∙ did.finished other)
        (λ other other_read none. IfSome_then (text_in done before other) (did.left other other_read) (λ text is.
        subst (λ l. IsLeft (is_read_in done other) other text l)
        (sym (keeps.others_left other (λ own. both_kinds slot (sym (ap is_read own) ∙ other_read) written))) is))
        (λ other other_read next. absurd (no_read next))
        (λ other other_written none differs. subst IsEmpty (sym (keeps.others_written other (slot_differs slot other
        differs)))
        (did.unwritten other other_written none))

    by_fault : (fault : DeskFault) → (fault ≡ Fault.Failed → IsCounted slot old now) → Ends (done ++ write slot ∷
        later) before now (write_status_of slot fault)
    by_fault Fault.Failed counted = with_status (WriteFault slot) (inl (later, refl))
        (written, counted_since slot before old now (did.counts slot) (counted refl), same_begun slot ∙ begun) (λ
        other told. cc)
    by_fault Fault.OutOfMemory counted = with_status Memory tt tt (λ other told. cc)

-- an end of a slot that failed
pub failed_finish_ends : (done later : List Step) (before old now : DeskState) (slot : Slot) (fault : DeskFault)
    → HasDone done before old → IsWritten slot → old.begun slot ≡ true
    → Same old.begun now.begun → Same old.finished now.finished → Same old.names now.names → now.written slot ≡
    old.written slot
    → Keeps slot old now → (fault ≡ Fault.Failed → IsCounted slot old now)
    → Ends (done ++ finish slot ∷ later) before now (write_status_of slot fault)
failed_finish_ends done later before old now slot fault did written begun same_begun same_finished names unchanged
    keeps counted = by_fault fault counted
  where
    with_status : (status : Status) → StopsAt (class_of status) done (finish slot ∷ later) → CauseOf before now
        (class_of status)
        → ((other : Slot) → class_of status ≡ too_long other → ⊥) → Ends (done ++ finish slot ∷ later) before now status
    with_status status stop cause not_long =
        ends_of done (finish slot ∷ later) before now status stop cause (begun_still done old now did.begun same_begun
        names)
        (λ other. same_finished other ∙ did.finished other)
        (λ other other_read none. IfSome_then (text_in done before other) (did.left other other_read) (λ text is.
        subst (λ l. IsLeft (is_read_in done other) other text l)
        (sym (keeps.others_left other (λ own. both_kinds slot (sym (ap is_read own) ∙ other_read) written))) is))
        (λ other other_read next. absurd (no_read next))
        (λ other other_written none none_next. subst IsEmpty (sym (same_bytes old now slot unchanged keeps other))
        (did.unwritten other other_written none))

    by_fault : (fault : DeskFault) → (fault ≡ Fault.Failed → IsCounted slot old now) → Ends (done ++ finish slot ∷
        later) before now (write_status_of slot fault)
    by_fault Fault.Failed counted = with_status (WriteFault slot) (inr (later, refl))
        (written, counted_since slot before old now (did.counts slot) (counted refl), same_begun slot ∙ begun) (λ
        other told. cc)
    by_fault Fault.OutOfMemory counted = with_status Memory tt tt (λ other told. cc)

-- the end of all work
pub ended_ends : (plan : List Step) (before now : DeskState) (status : Status) → class_of status ≡ ended → HasDone
    plan before now
    → ((slot : Slot) → IsWritten slot → now.begun slot ≡ true → now.finished slot ≡ true)
    → Ends plan before now status
ended_ends plan before now status is did finished =
    subst (λ (steps : List Step). Ends steps before now status) (append-nil plan)
    (done_ends plan [] before now status did (subst (λ class. StopsAt class plan []) (sym is) refl)
    (subst (CauseOf before now) (sym is) finished) (λ slot told. not_long slot (sym is ∙ told)))
  where
    not_long : (slot : Slot) → ended ≡ too_long slot → ⊥
    not_long slot told = cc

-- what a read slot gave is refused
pub refused_ends : (done rest : List Step) (before now : DeskState) (slot : Slot) (status : Status)
    → class_of status ≡ refused slot → IsRead slot → now.begun slot ≡ true → HasDone (done ++ read slot ∷ []) before now
    → Ends ((done ++ read slot ∷ []) ++ rest) before now status
refused_ends done rest before now slot status is is_read_slot begun did =
    done_ends (done ++ read slot ∷ []) rest before now status did
    (subst (λ class. StopsAt class (done ++ read slot ∷ []) rest) (sym is) (done, refl))
    (subst (CauseOf before now) (sym is) (is_read_slot, begun)) (λ other told. not_long other (sym is ∙ told))
  where
    not_long : (other : Slot) → refused slot ≡ too_long other → ⊥
    not_long other told = cc

refused_profile : (rest : List Step) (before now : DeskState) (name : List ℕ) (fault : ProfileFault)
    → HasDone (begin Profile name ∷ read Profile ∷ []) before now → now.begun Profile ≡ true
    → Ends ((begin Profile name ∷ read Profile ∷ []) ++ rest) before now (ProfileRefused fault)
refused_profile rest before now name fault did begun =
    refused_ends (begin Profile name ∷ []) rest before now Profile (ProfileRefused fault) refl refl begun did

-- a profile that was not read for this error
pub error_ends : (rest : List Step) (before now : DeskState) (name : List ℕ) (error : ProfileError)
    → HasDone (begin Profile name ∷ read Profile ∷ []) before now → now.begun Profile ≡ true
    → Ends ((begin Profile name ∷ read Profile ∷ []) ++ rest) before now (status_of_error error)
error_ends rest before now name P.OutOfMemory did begun = memory_ends (begin Profile name ∷ read Profile ∷ []) rest
    before now did
error_ends rest before now name (P.Refused fault) did begun = refused_profile rest before now name fault did begun
