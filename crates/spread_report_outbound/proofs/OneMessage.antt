-- One message of one session.
use Rattle.std.proofs.Common.{◌≡◌, ◌≢◌, ℕ, ◌<◌, nat_lt, codes, subst, true, false, List, [], ◌∷◌, ◌++◌, map, length, get_or, refl, sym, ap, ◌∙◌, inl, inr, arith, append-nil, Option, Some, None, Result, Ok, Err}
use Rattle.std.proofs.Math.Bool.{or-false}
use Rattle.std.proofs.Math.ListN.{set}
use Rattle.std.proofs.lemmas.List.{map-set, get_or-set_other, get_or-set_same, length-map, length-set, take_all, get_or_default, get_or-map, set-get_or}
use Rattle.std.proofs.lemmas.Bool.{cases_eq, eq-eqb, ne_eqb}
use Rattle.std.specs.declared.vec.Vec.{Vec}
use Rattle.spread_report_outbound.specs.declared.session.OutboundSession.{OutboundSession}
use Rattle.spread_report_outbound.specs.declared.session.CompIds.{CompIds}
use Rattle.spread_report_outbound.specs.declared.fault.DeskFault.{DeskFault}
use Rattle.spread_report_outbound.specs.declared.fault.DeskFault.TheVariants.{NoMemory, NumbersSpent}
use Rattle.fix_wire.specs.declared.writer.Field.{Field}
use Rattle.std.specs.Result.{OnOk, OnErr, IsErrOf}
use Rattle.spread_report_outbound.specs.Steps.{OutgoingStep, numbered, gap_fill, step_texts, after_step, head_of}
use Rattle.spread_report_outbound.specs.code.Steps.{outbound_before_logon}
use Rattle.spread_report_fields.specs.code.Fields.{text_field, number_field}
use Rattle.spread_report_outbound.specs.code.Addressed.{AddressedStep, new_seq_no}
use Rattle.spread_report_outbound.specs.code.PerSession.{message_bytes, is_above_limit, messages_bytes, texts_to, outbound_after, spends}
use Rattle.std.specs.List.{concat}
use Rattle.fix_wire.specs.Layout.{message_text}
use Rattle.spread_report_outbound.specs.Rows.{IsRow}
use Rattle.spread_report_outbound.proofs.FrameRows.{no_row}
use Rattle.spread_report_outbound.specs.Sessions.{bytes_of}
use Rattle.spread_report_outbound.specs.code.Sessions.{OutboundState, outbound_at, KeepsBytes}
use Rattle.spread_report_outbound.specs.code.Sending.{Appended, Sent, OnlyAppended, SendResult}

-- the message
abbrev pub one : ℕ → OutgoingStep → List AddressedStep
one to content = record { to = to; step = content } ∷ []

module _ {A : Type 0} (x : List (Vec ℕ A)) (i : ℕ) where
  items : Vec ℕ A → List ℕ
  items v = v.items

  pub row_same : (v : Vec ℕ A) → i < length x → bytes_of (set x i v) i ≡ v.items
  row_same v here =
      ap (λ (ys : List (List ℕ)). get_or ys i []) (map-set (λ (w : Vec ℕ A). w.items) x i v)
      ∙ get_or-set_same (map (λ (w : Vec ℕ A). w.items) x) i v.items [] (rw length-map here)

  pub row_other : (v : Vec ℕ A) (s : ℕ) → s ≢ i → bytes_of (set x i v) s ≡ bytes_of x s
  row_other v s apart =
      ap (λ (ys : List (List ℕ)). get_or ys s []) (map-set (λ (w : Vec ℕ A). w.items) x i v)
      ∙ get_or-set_other (map (λ (w : Vec ℕ A). w.items) x) i s v.items [] apart

-- what one message does to its own session, and to another
module _ (stamp : List ℕ) (l : OutboundSession) (content : OutgoingStep) where
  pub bytes_same : (i : ℕ) → messages_bytes stamp i l (one i content) ≡ message_bytes stamp l content
  bytes_same i = rw (eq-eqb i i refl) (ap concat (append-nil (step_texts stamp l.comp_ids l.next content)))

  pub bytes_other : (i s : ℕ) → s ≢ i → messages_bytes stamp s l (one i content) ≡ []
  bytes_other i s apart = rw (ne_eqb i s (λ h. apart (sym h))) refl

  pub texts_same : (i : ℕ) → texts_to stamp i l (one i content) ≡ step_texts stamp l.comp_ids l.next content
  texts_same i = rw (eq-eqb i i refl) (append-nil (step_texts stamp l.comp_ids l.next content))

  pub texts_other : (i s : ℕ) → s ≢ i → texts_to stamp s l (one i content) ≡ []
  texts_other i s apart = rw (ne_eqb i s (λ h. apart (sym h))) refl

  pub line_same : (i : ℕ) → outbound_after i l (one i content) ≡ after_step l content
  line_same i = rw (eq-eqb i i refl) refl

  pub line_other : (i s : ℕ) → s ≢ i → outbound_after s l (one i content) ≡ l
  line_other i s apart = rw (ne_eqb i s (λ h. apart (sym h))) refl

  pub spends_same : (i : ℕ) → spends i l (one i content) ≡ is_above_limit l content
  spends_same i = rw (eq-eqb i i refl) (or-false (is_above_limit l content))

  pub spends_other : (i s : ℕ) → s ≢ i → spends s l (one i content) ≡ false
  spends_other i s apart = rw (ne_eqb i s (λ h. apart (sym h))) refl

module _ {A : Type 0} (stamp : List ℕ) (a : List OutboundSession) (x : List (Vec ℕ A)) (i : ℕ) (content : OutgoingStep)
  where
    -- the session's list got the text, and its outbound state went on
    pub sent_at : (v : Vec ℕ A) (l : OutboundSession) → i < length a → i < length x
        → v.items ≡ bytes_of x i ++ message_bytes stamp (outbound_at a i) content
        → l ≡ after_step (outbound_at a i) content
        → l.comp_ids ≡ (outbound_at a i).comp_ids
        → is_above_limit (outbound_at a i) content ≡ false
        → IsRow (step_texts stamp (outbound_at a i).comp_ids (outbound_at a i).next content)
        (message_bytes stamp (outbound_at a i) content)
        → Sent stamp a (set a i l) x (set x i v) (one i content)
    sent_at v l in_a in_x text line ids spent row = record {
      sessions = length-set a i l;
      lists = length-set x i v;
      bytes = λ s below.
          elim (cases_eq s i) [
            | inl e ↦ rw e (row_same x i v in_x ∙ (text ∙ ap (λ (t : List ℕ). bytes_of x i ++ t)
                (sym (bytes_same stamp (outbound_at a i) content i))))
            | inr apart ↦ row_other x i v s apart ∙ (sym (append-nil (bytes_of x s))
                ∙ ap (λ (t : List ℕ). bytes_of x s ++ t) (sym (bytes_other stamp (outbound_at a s) content i s apart)))
          ];
      outbound = λ s below.
          elim (cases_eq s i) [
            | inl e ↦ rw e (get_or-set_same a i l _ in_a ∙ (line ∙ sym (line_same stamp (outbound_at a i) content i)))
            | inr apart ↦ get_or-set_other a i s l _ apart ∙ sym (line_other stamp (outbound_at a s) content i s apart)
          ];
      comp_ids = λ s below.
          elim (cases_eq s i) [
            | inl e ↦ rw e (ap (λ (o : OutboundSession). o.comp_ids) (get_or-set_same a i l _ in_a) ∙ ids)
            | inr apart ↦ ap (λ (o : OutboundSession). o.comp_ids) (get_or-set_other a i s l _ apart)
          ];
      unspent = λ s below.
          elim (cases_eq s i) [
            | inl e ↦ rw e (spends_same stamp (outbound_at a i) content i ∙ spent)
            | inr apart ↦ spends_other stamp (outbound_at a s) content i s apart
          ];
      row = λ s below.
          elim (cases_eq s i) [
            | inl e ↦ rw e (rw (texts_same stamp (outbound_at a i) content i) row)
            | inr apart ↦ rw (texts_other stamp (outbound_at a s) content i s apart) no_row
          ];
    }

    -- nothing was to be sent
    pub sent_quiet : step_texts stamp (outbound_at a i).comp_ids (outbound_at a i).next content ≡ []
        → after_step (outbound_at a i) content ≡ outbound_at a i
        → is_above_limit (outbound_at a i) content ≡ false → Sent stamp a a x x (one i content)
    sent_quiet text next spent = record {
      sessions = refl;
      lists = refl;
      bytes = λ s below.
          elim (cases_eq s i) [
            | inl e ↦ rw e (sym (append-nil (bytes_of x i)) ∙ ap (λ (t : List ℕ). bytes_of x i ++ t)
                (sym (bytes_same stamp (outbound_at a i) content i ∙ ap concat text)))
            | inr apart ↦ sym (append-nil (bytes_of x s)) ∙ ap (λ (t : List ℕ). bytes_of x s ++ t)
                (sym (bytes_other stamp (outbound_at a s) content i s apart))
          ];
      outbound = λ s below.
          elim (cases_eq s i) [
            | inl e ↦ rw e (sym (line_same stamp (outbound_at a i) content i ∙ next))
            | inr apart ↦ sym (line_other stamp (outbound_at a s) content i s apart)
          ];
      comp_ids = λ s below. refl;
      unspent = λ s below.
          elim (cases_eq s i) [
            | inl e ↦ rw e (spends_same stamp (outbound_at a i) content i ∙ spent)
            | inr apart ↦ spends_other stamp (outbound_at a s) content i s apart
          ];
      row = λ s below.
          elim (cases_eq s i) [
            | inl e ↦ rw e (rw (texts_same stamp (outbound_at a i) content i, text) no_row)
            | inr apart ↦ rw (texts_other stamp (outbound_at a s) content i s apart) no_row
          ];
    }

-- no message
pub sent_none : {A : Type 0} (stamp : List ℕ) (a : List OutboundSession) (x : List (Vec ℕ A)) → Sent stamp a a x x []
sent_none stamp a x = record {
  sessions = refl;
  lists = refl;
  bytes = λ s below. sym (append-nil (bytes_of x s));
  outbound = λ s below. refl;
  comp_ids = λ s below. refl;
  unspent = λ s below. refl;
  row = λ s below. no_row;
}

module _ {A : Type 0} (a : List OutboundSession) (x : List (Vec ℕ A)) where
  -- nothing was appended
  pub appended_none : OnlyAppended a a x x
  appended_none = record {
    sessions = refl;
    lists = refl;
    comp_ids = λ s below. refl;
    begins =
        λ s below. take_all (length (bytes_of x s)) (bytes_of x s) (omega arith);
  }

  -- the list was written to, and stayed as it was
  stays : (i : ℕ) (v : Vec ℕ A) → i < length x → v.items ≡ bytes_of x i → KeepsBytes x (set x i v)
  stays i v in_x same s below = elim (cases_eq s i) [
    | inl e ↦ rw e (row_same x i v in_x ∙ same)
    | inr apart ↦
        row_other x i v s apart
  ]

  pub appended_same : (i : ℕ) (v : Vec ℕ A) → i < length x → v.items ≡ bytes_of x i → OnlyAppended a a x (set x i v)
  appended_same i v in_x same = record {
    sessions = refl;
    lists = length-set x i v;
    comp_ids = λ s below. refl;
    begins = λ s below. rw (stays i v in_x same s below)
        (take_all (length (bytes_of x s)) (bytes_of x s) (omega arith));
  }

-- the same, as the code reads the session and the list
module _ {A : Type 0} (stamp : List ℕ) (a : List OutboundSession) (x : List (Vec ℕ A)) (i : ℕ) (content : OutgoingStep)
    (r : OutboundSession) (w : Vec ℕ A) (ids : CompIds) where
  pub line_is : r ≡ get_or a i r → i < length a → outbound_at a i ≡ r
  line_is e below = get_or_default a i (outbound_before_logon 1) r below ∙ sym e

  pub row_is : i < length x → bytes_of x i ≡ (get_or x i w).items
  row_is below = get_or-map (λ (v : Vec ℕ A). v.items) x i w [] below

  -- the session as it is read, with its CompIDs
  abbrev pub known : OutboundSession
  known = record { next = r.next; comp_ids = Some ids }

  pub known_is : length a ≡ 16 → i < 16 → r ≡ get_or a i r → r.comp_ids ≡ Some ids → outbound_at a i ≡ known
  known_is in_a below is_r is_ids = line_is is_r (rw in_a below)
      ∙ ap (λ (o : Option CompIds). record { next = r.next; comp_ids = o }) is_ids

  pub sent_line : (v : Vec ℕ A) (t : List ℕ) (n : ℕ) → length a ≡ 16 → length x ≡ 16 → i < 16 → r ≡ get_or a i r
      → r.comp_ids ≡ Some ids
      → v.items ≡ (get_or x i w).items ++ t → t ∷ [] ≡ step_texts stamp (Some ids) r.next content
      → record { next = n; comp_ids = Some ids } ≡ after_step known content → is_above_limit known content ≡ false
      → IsRow (t ∷ []) (concat (t ∷ []))
      → Sent stamp a (set a i (record { next = n; comp_ids = Some ids })) x (set x i v) (one i content)
  sent_line v t n in_a in_x below is_r is_ids text is_t next unspent row =
      let bytes : t ≡ message_bytes stamp known content = sym (append-nil t) ∙ ap concat is_t in
      let whole : IsRow (step_texts stamp (Some ids) r.next content) (message_bytes stamp known content) =
      subst (λ (ts : List (List ℕ)). IsRow ts (concat ts)) is_t row in
      let here : outbound_at a i ≡ known = known_is in_a below is_r is_ids in
      let there : bytes_of x i ≡ (get_or x i w).items = row_is (rw in_x below) in
      sent_at stamp a x i content v (record { next = n; comp_ids = Some ids }) (rw in_a below) (rw in_x below)
      (rw (here, there) (text ∙ ap (λ (u : List ℕ). (get_or x i w).items ++ u) bytes)) (rw here next) (rw here refl)
      (rw here unspent) (rw here whole)

-- one message that is appended to one list, as the code reads the session
module _ (stamp : List ℕ) (a : List OutboundSession) (i : ℕ) (content : OutgoingStep) (r : OutboundSession)
    (in_a : length a ≡ 16) (below : i < 16) (is_r : r ≡ get_or a i r) where
  there_is : (o : Option CompIds) → r.comp_ids ≡ o → outbound_at a i ≡ record { next = r.next; comp_ids = o }
  there_is o is_o = get_or_default a i (outbound_before_logon 1) r (rw in_a below)
      ∙ (sym is_r ∙ ap (λ (p : Option CompIds). record { next = r.next; comp_ids = p }) is_o)

  module _ (ids : CompIds) (is_ids : r.comp_ids ≡ Some ids) where
    abbrev on_line : OutboundSession
    on_line = record { next = r.next; comp_ids = Some ids }

    pub appended_on : (u v t : List ℕ) (n : ℕ) → v ≡ u ++ t → t ∷ [] ≡ step_texts stamp (Some ids) r.next content
        → record { next = n; comp_ids = Some ids } ≡ after_step on_line content → is_above_limit on_line content ≡ false
        → IsRow (t ∷ []) (concat (t ∷ []))
        → Appended stamp i a (set a i (record { next = n; comp_ids = Some ids })) u v content
    appended_on u v t n text is_t next unspent row =
        let here : outbound_at a i ≡ on_line = there_is (Some ids) is_ids in
        let bytes : t ≡ message_bytes stamp on_line content = sym (append-nil t) ∙ ap concat is_t in
        record {
          known = rw in_a below;
          bytes = rw here (text ∙ ap (λ (w : List ℕ). u ++ w) bytes);
          outbound = rw here (ap (λ (l : OutboundSession). set a i l) next);
          unspent = rw here unspent;
          row = rw here (subst (λ (ts : List (List ℕ)). IsRow ts (concat ts)) is_t row);
        }

    pub above_on : is_above_limit on_line content ≡ true → is_above_limit (outbound_at a i) content ≡ true
    above_on above = rw (there_is (Some ids) is_ids) above

  -- before its Logon a session is sent nothing
  pub appended_off : (u : List ℕ) → r.comp_ids ≡ None → step_texts stamp None r.next content ≡ []
      → after_step (record { next = r.next; comp_ids = None }) content ≡ record { next = r.next; comp_ids = None }
      → is_above_limit (record { next = r.next; comp_ids = None }) content ≡ false
      → Appended stamp i a a u u content
  appended_off u off text same unspent =
      let here : outbound_at a i ≡ record { next = r.next; comp_ids = None } = there_is None off in
      let back : outbound_at a i ≡ get_or a i r = get_or_default a i (outbound_before_logon 1) r (rw in_a below) in
      record {
        known = rw in_a below;
        bytes = rw here (sym (append-nil u) ∙ ap (λ (ts : List (List ℕ)). u ++ concat ts) (sym text));
        outbound = rw (here, same) (sym (ap (λ (l : OutboundSession). set a i l) (sym here ∙ back) ∙ set-get_or a i r));
        unspent = rw here unspent;
        row = rw (here, text) no_row;
      }

-- what was appended to one list, in all sessions and all lists
module _ {A : Type 0} (before after : OutboundState) (x : List (Vec ℕ A)) (i : ℕ) (w v : Vec ℕ A) (kind : ℕ)
    (fields : List Field) (in_x : length x ≡ 16) (below : i < 16) where
  abbrev sent : OutgoingStep
  sent = numbered kind fields

  abbrev own : OutboundSession
  own = outbound_at before.sessions i

  ids_stay : (n : ℕ) (o : Option CompIds) → (after_step (record { next = n; comp_ids = o }) sent).comp_ids ≡ o
  ids_stay n None = refl
  ids_stay n (Some ids) = refl

  list_is : bytes_of x i ≡ (get_or x i w).items
  list_is = get_or-map (λ (u : Vec ℕ A). u.items) x i w [] (rw in_x below)

  sent_numbered : Appended before.stamp i before.sessions after.sessions (get_or x i w).items v.items sent
      → Sent before.stamp before.sessions after.sessions x (set x i v) (one i sent)
  sent_numbered p =
      subst (λ (c : List OutboundSession). Sent before.stamp before.sessions c x (set x i v) (one i sent))
      (sym p.outbound)
      (sent_at before.stamp before.sessions x i sent v (after_step own sent) p.known (rw in_x below)
      (rw list_is p.bytes) refl (ids_stay own.next own.comp_ids) p.unspent p.row)

  appended_nothing : after ≡ before → v.items ≡ (get_or x i w).items
      → OnlyAppended before.sessions after.sessions x (set x i v)
  appended_nothing same kept =
      subst (λ (d : OutboundState). OnlyAppended before.sessions d.sessions x (set x i v)) (sym same)
      (appended_same before.sessions x i v (rw in_x below) (kept ∙ sym list_is))

  pub sent_one : {T : Type 0} (r : Result T DeskFault)
      → OnOk r (Appended before.stamp i before.sessions after.sessions (get_or x i w).items v.items sent)
      → (IsErrOf r NumbersSpent → is_above_limit own sent ≡ true) → OnErr r (after ≡ before)
      → OnErr r (v.items ≡ (get_or x i w).items)
      → SendResult before.stamp before.sessions after.sessions x (set x i v) (one i sent) r
  sent_one (Ok t) appended spent same kept = sent_numbered appended
  sent_one (Err NoMemory) appended spent same kept = appended_nothing same kept
  sent_one (Err NumbersSpent) appended spent same kept = (
    appended_nothing same kept,
    record { session = i; below = below; spent = spends_same before.stamp own sent i ∙ spent refl },
  )

  pub kept_one : {T : Type 0} (r : Result T DeskFault) → OnErr r (v.items ≡ (get_or x i w).items)
      → OnErr r (KeepsBytes x (set x i v))
  kept_one (Ok t) kept = tt
  kept_one (Err fault) kept = stays before.sessions x i v (rw in_x below) (kept ∙ sym list_is)

module _ {A : Type 0} (a : List OutboundSession) (x : List (Vec ℕ A)) (i : ℕ) (w : Vec ℕ A) where
  pub appended_line : (v : Vec ℕ A) → length x ≡ 16 → i < 16 → v.items ≡ (get_or x i w).items
      → OnlyAppended a a x (set x i v)
  appended_line v in_x below same = appended_same a x i v (rw in_x below)
      (same ∙ sym (get_or-map (λ (v : Vec ℕ A). v.items) x i w [] (rw in_x below)))

  pub kept_line : (v : Vec ℕ A) → length x ≡ 16 → i < 16 → v.items ≡ (get_or x i w).items → KeepsBytes x (set x i v)
  kept_line v in_x below same = stays a x i v (rw in_x below)
      (same ∙ sym (get_or-map (λ (v : Vec ℕ A). v.items) x i w [] (rw in_x below)))

module _ {A : Type 0} (stamp : List ℕ) (a : List OutboundSession) (x : List (Vec ℕ A)) (i : ℕ) (first last : ℕ)
    (r : OutboundSession) (w : Vec ℕ A) (ids : CompIds) where
  -- a gap fill leaves the outbound state as it was
  pub gap_line : (v : Vec ℕ A) (t : List ℕ) → length a ≡ 16 → length x ≡ 16 → i < 16 → r ≡ get_or a i r
      → r.comp_ids ≡ Some ids
      → v.items ≡ (get_or x i w).items ++ t → t ∷ [] ≡ step_texts stamp (Some ids) r.next (gap_fill first last)
      → IsRow (t ∷ []) (concat (t ∷ []))
      → Sent stamp a a x (set x i v) (one i (gap_fill first last))
  gap_line v t in_a in_x below is_r is_ids text is_t row =
      let kept : set a i (record { next = r.next; comp_ids = Some ids }) ≡ a =
      ap (λ (o : Option CompIds). set a i (record { next = r.next; comp_ids = o })) (sym is_ids)
      ∙ (ap (λ (l : OutboundSession). set a i l) is_r ∙ set-get_or a i r) in
      subst (λ (b : List OutboundSession). Sent stamp a b x (set x i v) (one i (gap_fill first last))) kept
      (sent_line stamp a x i (gap_fill first last) r w ids v t r.next in_a in_x below is_r is_ids text is_t refl refl
      row)

pub gap_text : (stamp : List ℕ) (ids : CompIds) (next first last n m l : ℕ) (y : List ℕ) → n ≡ first
    → m ≡ new_seq_no next l → l ≡ last → y ≡ codes "Y" → nat_lt n next ≡ true
    → message_text (head_of stamp ids 52 n true) (number_field 36 m ∷ text_field 123 y ∷ []) ∷ [] ≡ step_texts stamp
    (Some ids) next (gap_fill first last)
gap_text stamp ids next first last n m l y en em el ey lt =
    let there : nat_lt first next ≡ true = rw (sym en) lt in
    ap (λ (k : ℕ). message_text (head_of stamp ids 52 k true) (number_field 36 m ∷ text_field 123 y ∷ []) ∷ []) en
    ∙ (ap (λ (k : ℕ). message_text (head_of stamp ids 52 first true) (number_field 36 k ∷ text_field 123 y ∷ []) ∷ [])
    (em ∙ ap (λ (k : ℕ). new_seq_no next k) el)
    ∙ (ap (λ (k : List ℕ). message_text (head_of stamp ids 52 first true)
    (number_field 36 (new_seq_no next last) ∷ text_field 123 k ∷ []) ∷ []) ey
    ∙ rw there refl))

-- messages that are the same
pub result_same : {A T : Type 0} (stamp : List ℕ) (a b : List OutboundSession) (x y : List (Vec ℕ A))
    (ms ns : List AddressedStep) (r : Result T DeskFault) → ms ≡ ns → SendResult stamp a b x y ms r
    → SendResult stamp a b x y ns r
result_same stamp a b x y ms ns r e w = subst (λ (l : List AddressedStep). SendResult stamp a b x y l r) e w

module _ {A : Type 0} (stamp : List ℕ) (a : List OutboundSession) (x : List (Vec ℕ A)) (i : ℕ) (r : OutboundSession)
    (in_a : length a ≡ 16) (below : i < 16) (is_r : r ≡ get_or a i r) where
  -- before its Logon a session is sent nothing
  abbrev off_line : OutboundSession
  off_line = record { next = r.next; comp_ids = None }

  pub sent_off : (content : OutgoingStep) → r.comp_ids ≡ None → step_texts stamp None r.next content ≡ []
      → after_step off_line content ≡ off_line → is_above_limit off_line content ≡ false
      → Sent stamp a a x x (one i content)
  sent_off content off text same spent =
      let here : outbound_at a i ≡ off_line = get_or_default a i (outbound_before_logon 1) r (rw in_a below)
      ∙ (sym is_r ∙ ap (λ (o : Option CompIds). record { next = r.next; comp_ids = o }) off) in
      sent_quiet stamp a x i content (rw here text) (rw here same) (rw here spent)

  -- the numbers that are asked for were not sent yet
  pub gap_none : (first last : ℕ) (ids : CompIds) → r.comp_ids ≡ Some ids → nat_lt first r.next ≡ false
      → Sent stamp a a x x (one i (gap_fill first last))
  gap_none first last ids is_ids above =
      let here : outbound_at a i ≡ record { next = r.next; comp_ids = Some ids } =
      get_or_default a i (outbound_before_logon 1) r (rw in_a below)
      ∙ (sym is_r ∙ ap (λ (o : Option CompIds). record { next = r.next; comp_ids = o }) is_ids) in
      sent_quiet stamp a x i (gap_fill first last) (rw (here, above) refl) refl refl
