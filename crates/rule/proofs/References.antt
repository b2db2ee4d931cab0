-- What a written reference is shown as: by its index or inline, the text or the thread that was written; and so the arguments that are asked for.
-- Assumes nothing.
use Prim.Native.Nat.{ℕ, ◌+◌, ◌-◌, ◌≤◌, min}
use mathlib.Core.Path.{◌≡◌, refl, sym, ap, ◌∙◌}
use mathlib.Core.List.{[], List, ◌∷◌}
use mathlib.Core.Option.{Option}
use native.Mathlib.Omega.{arith}
use borrow.Author.Tests.{leb-false, eqb-false}
use lib.Dec.{eqb, leb}
use lib.ListN.{length, take, drop, length-take, length-drop}
use Rattle.words.specs.Word.{◌of◌}
use Rattle.words.specs.Stream.{part_of}
use Rattle.words.proofs.Tests.{cases}
use Rattle.format.specs.declared.Format.{Format}
use Rattle.format.specs.declared.Reference.{Reference}
use Rattle.format.specs.declared.Reference.TheVariants.{Inline, Index}
use Rattle.arguments.specs.declared.Value.{Value as ReadValue}
use Rattle.arguments.specs.declared.Value.TheVariants.{Scalar as ScalarValue, Text as TextValue}
use Rattle.records.specs.Item.{Shown, known, unresolved, Thread, thread, Text, Value, scalar, text, text_key, thread_key, Referent, text_referent, thread_referent}
use Rattle.encoding.specs.Models.Part.{referent_table}
use Rattle.encoding.specs.Encoded.{text_index, thread_index, text_inline, thread_inline, encoded_text, encoded_thread, stream, encoded_referent}
use Rattle.encoding.proofs.EncodedParts.{Spells}
use Rattle.encoding.proofs.EncodedRecords.{body-text, body-thread}
use Rattle.encoding.proofs.EncodedArguments.{TextFits, ValueFits, SpellsValue}
use Rattle.encoding.proofs.EncodedLayouts.{ThreadFits, ReferentFits}
use Rattle.contexts.specs.declared.State.{State}
use Rattle.tables.specs.Table.{resolved}
use Rattle.views.specs.Shown.{shown_text, shown_thread, shown_value, shown_referent, shown_stream}
use Rattle.reader.specs.Reads.{text_item, thread_item, value_item, referent_item, stream_item}
use Rattle.reader.proofs.Runs.{Sound}
use Rattle.rule.specs.Rule.{Entry, index_in}
use Rattle.rule.proofs.Tables.{Every, index-holds}
use Rattle.rule.proofs.Entries.{ContextIs, Standing, stand_known}

-- ---- parts of an archive

none_of : (b : List ℕ) → length b ≡ 0 → [] ≡ b
none_of [] e = refl
none_of (x ∷ xs) e = absurd (omega arith)

-- bytes that stand in an archive are answered for their place and length
pub part-is : (bytes : List ℕ) (place n : ℕ) (b : List ℕ) → n ≡ length b → take n (drop place bytes) ≡ b → part_of bytes place n ≡ b
unfolding part_of
part-is bytes place n b long is =
    let size : length b ≡ min n (length bytes - place) = sym (ap length is) ∙ rw (length-take n (drop place bytes), length-drop place bytes) in
    cases (leb place (length bytes))
    (λ p. cases (leb n (length bytes - place)) (λ q. rw (p, q) is)
    (λ q. rw (p, q) (none_of b (omega (arith, size, long, leb-false n (length bytes - place) q)))))
    (λ p. rw p (none_of b (omega (arith, size, leb-false place (length bytes) p))))

-- ---- references

module _ (f : Format) (archive tables : List ℕ) (s : State) (entries : List Entry) (provider : Option ℕ) (context until : ℕ)
    (sound : Sound f archive s tables) (own : ContextIs s provider context) (late : s.place ≤ until)
    (stands : Every (Standing f archive s tables) entries) where
  inline_text : (b : List ℕ) (r : Reference) → Spells f archive r (text_inline b)
      → text_item archive (shown_text (resolved f archive tables context 2 until r)) ≡ known b
  unfolding resolved shown_text
  inline_text b (Inline place n) h = ap known (part-is archive place n b h.0 h.1)
  inline_text b (Index i) h = absurd h

  index-text : (b : List ℕ) (r : Reference) → (index_in entries provider (text_key b) ≡ 0 → ⊥)
      → Spells f archive r (text_index (index_in entries provider (text_key b)))
      → text_item archive (shown_text (resolved f archive tables context 2 until r)) ≡ known b
  unfolding shown_text
  index-text b (Inline place n) given h = absurd h
  index-text b (Index i) given h =
      let index = index_in entries provider (text_key b) in
      let k = index-holds (Standing f archive s tables) entries provider (text_key b) stands given in
      rw (h, stand_known f archive s tables provider (text_key b) index context until sound own late k)
      (ap known (part-is archive (k.place + 8) (length b) b refl
      (body-text f 2 (index of 15 ∷ 0 of 1 ∷ length b of 15 ∷ 0 of 17 ∷ []) b archive k.place k.there)))

  -- a text that was written is shown
  pub text_shown_lem : (t : Text) (r : Reference) → TextFits f (index_in entries provider) t → Spells f archive r (encoded_text (index_in entries provider) t)
      → text_item archive (shown_text (resolved f archive tables context 2 until r)) ≡ t
  text_shown_lem (known b) r fit h =
      let i = index_in entries provider (text_key b) in
      cases (eqb i 0) (λ e. inline_text b r (rw e at h)) (λ e. index-text b r (eqb-false i 0 e) (rw e at h))
  text_shown_lem (unresolved i) r fit h = absurd fit

  inline_thread : (t : Thread) (r : Reference) → Spells f archive r (thread_inline t)
      → thread_item (shown_thread f archive (resolved f archive tables context 3 until r)) ≡ known t
  unfolding resolved shown_thread
  inline_thread (thread p t) (Inline place n) h = rw (h.0, h.1)
  inline_thread t (Index i) h = absurd h

  index-thread : (p t : ℕ) (r : Reference) → (index_in entries provider (thread_key (thread p t)) ≡ 0 → ⊥)
      → Spells f archive r (thread_index (index_in entries provider (thread_key (thread p t))))
      → thread_item (shown_thread f archive (resolved f archive tables context 3 until r)) ≡ known (thread p t)
  unfolding shown_thread
  index-thread p t (Inline place n) given h = absurd h
  index-thread p t (Index i) given h =
      let key = thread_key (thread p t) in
      let index = index_in entries provider key in
      let k = index-holds (Standing f archive s tables) entries provider key stands given in
      let w = body-thread f 3 (index of 8 ∷ 0 of 40 ∷ []) p t archive k.place k.fits.2 k.fits.3 k.there in
      rw (h, stand_known f archive s tables provider key index context until sound own late k, w.0, w.1)

  -- a thread that was written is shown
  pub thread_shown_lem : (t : Shown Thread) (r : Reference) → ThreadFits (index_in entries provider) t
      → Spells f archive r (encoded_thread (index_in entries provider) t)
      → thread_item (shown_thread f archive (resolved f archive tables context 3 until r)) ≡ t
  thread_shown_lem (known (thread p t)) r fit h =
      let i = index_in entries provider (thread_key (thread p t)) in
      cases (eqb i 0) (λ e. inline_thread (thread p t) r (rw e at h)) (λ e. index-thread p t r (eqb-false i 0 e) (rw e at h))
  thread_shown_lem (unresolved i) r fit h = absurd fit

  -- a value that was written is shown
  pub value_shown_lem : (v : Value) (q : ReadValue) → ValueFits f (index_in entries provider) v → SpellsValue f archive (index_in entries provider) q v
      → value_item archive (shown_value f archive tables context until q) ≡ v
  unfolding shown_value
  value_shown_lem (scalar a) (ScalarValue b) fit h = ap scalar h
  value_shown_lem (scalar a) (TextValue r) fit h = absurd h
  value_shown_lem (text t) (ScalarValue b) fit h = absurd h
  value_shown_lem (text t) (TextValue r) fit h = ap text (text_shown_lem t r fit h)

  -- what a record refers to is shown
  pub referent_shown_lem : (x : Referent) (table : ℕ) (r : Reference) → ReferentFits f (index_in entries provider) x → table ≡ referent_table x
      → Spells f archive r (encoded_referent (index_in entries provider) x)
      → referent_item archive (shown_referent f archive table (resolved f archive tables context table until r)) ≡ x
  unfolding shown_referent
  referent_shown_lem (text_referent t) table r fit e h = rw e (ap text_referent (text_shown_lem t r fit h))
  referent_shown_lem (thread_referent t) table r fit e h = rw e (ap thread_referent (thread_shown_lem t r fit h))

-- a stream that was written is shown
pub stream_shown : (f : Format) (archive b : List ℕ) (r : Reference) → Spells f archive r (stream b) → stream_item archive (shown_stream r) ≡ b
unfolding shown_stream
stream_shown f archive b (Inline place n) h = part-is archive place n b h.0 h.1
stream_shown f archive b (Index i) h = absurd h
