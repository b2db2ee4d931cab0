-- The uses of an archive that is not refused, small format: they are plain, and the slots can be asked to register each of them, all within the limits.
-- Assumes nothing.
use Prim.Native.Nat.{ℕ, ◌<◌}
use mathlib.Core.Path.{◌≡◌, refl, sym, subst}
use mathlib.Core.List.{List, [], ◌∷◌, ◌++◌}
use mathlib.Core.Bool.{Bool}
use mathlib.Core.Option.{Option}
use native.Mathlib.Omega.{arith}
use Rattle.encoding.proofs.EncodedLayouts.{ItemFits, ThreadFits, ReferentFits, PiecesFit}
use Rattle.words.proofs.Words.{AllBytes}
use Rattle.encoding.proofs.EncodedArguments.{TextFits, ValueFits, AllFit as AllArgumentsFit}
use Rattle.registering.specs.Counting.{count}
use Rattle.format.specs.declared.Format.{Format}
use Rattle.format.specs.Limits.{small_format}
use Rattle.records.specs.Item.{Shown, known, unresolved, Thread, thread, Text, Value, scalar, text, Argument, Item}
use Rattle.records.specs.Item.{Key, Use, text_uses, thread_uses, value_uses, arguments_uses, uses_of, Referent, Piece, layout_of_item, referent_uses, pieces_uses, text_referent, words, thread_referent, stream, refers}
use Rattle.rule.specs.Rule.{same_use, uses_all, Entry, with_use, entries_after, chosen_in}
use Rattle.rule.specs.Refusal.{run_of, items_of, Accepted}
use Rattle.rule.proofs.Accepted.{accepted_writable}
use Rattle.rule.proofs.Limits.{Limited, uses_grow, limits-kept, limits_of}
use Rattle.rule.proofs.ReadBack.{UsesFit, AllFit}
use Rattle.rule.proofs.Theorems.{accepted_reads, shortest}
use Rattle.rule.proofs.Uses.{same_use_refl}
use Rattle.rule.proofs.WholeRuns.{not_refused-passes}
use Rattle.passes.proofs.Codes.{UsesPlain, plain_both}
use Rattle.rewriting.proofs.Given.{UsesReady}

-- ---- uses are plain

-- the use of a text that fits
text-plain : (f : Format) (index : Key → ℕ) (provider : Option ℕ) (t : Text) → TextFits f index t → UsesPlain (text_uses provider t)
text-plain f index provider (known []) fit = tt
text-plain f index provider (known (b ∷ bs)) fit = (omega (arith, fit.1), tt)
text-plain f index provider (unresolved i) fit = tt

-- of a thread that fits
thread-plain : (index : Key → ℕ) (provider : Option ℕ) (t : Shown Thread) → ThreadFits index t → UsesPlain (thread_uses provider t)
thread-plain index provider (known (thread p t)) fit = ((fit.0, fit.1), tt)
thread-plain index provider (unresolved i) fit = tt

-- of a value that fits
value-plain : (f : Format) (index : Key → ℕ) (provider : Option ℕ) (v : Value) → ValueFits f index v → UsesPlain (value_uses provider v)
value-plain f index provider (scalar s) fit = tt
value-plain f index provider (text t) fit = text-plain f index provider t fit

-- of arguments that fit
arguments-plain : (f : Format) (index : Key → ℕ) (provider : Option ℕ) (l : List Argument) → AllArgumentsFit f index l
    → UsesPlain (arguments_uses provider l)
arguments-plain f index provider [] fit = tt
arguments-plain f index provider (a ∷ l) fit =
    plain_both (text_uses provider a.name) (value_uses provider a.value ++ arguments_uses provider l)
    (text-plain f index provider a.name fit.0.name)
    (plain_both (value_uses provider a.value) (arguments_uses provider l) (value-plain f index provider a.value fit.0.value)
    (arguments-plain f index provider l fit.1))

-- of a referent that fits
referent_plain : (f : Format) (index : Key → ℕ) (provider : Option ℕ) (x : Referent) → ReferentFits f index x → UsesPlain (referent_uses provider x)
referent_plain f index provider (text_referent t) fit = text-plain f index provider t fit
referent_plain f index provider (thread_referent t) fit = thread-plain index provider t fit

-- of pieces that fit, and plain uses behind them
pieces-plain : (f : Format) (index : Key → ℕ) (provider : Option ℕ) (ps : List Piece) (more : List Use) → PiecesFit f index ps → UsesPlain more
    → UsesPlain (pieces_uses provider ps more)
pieces-plain f index provider [] more fit plain = plain
pieces-plain f index provider (words ns ∷ ps) more fit plain = pieces-plain f index provider ps more fit.1 plain
pieces-plain f index provider (stream b ∷ ps) more fit plain = pieces-plain f index provider ps more fit.1 plain
pieces-plain f index provider (refers x ∷ ps) more fit plain =
    plain_both (referent_uses provider x) (pieces_uses provider ps more) (referent_plain f index provider x fit.0)
    (pieces-plain f index provider ps more fit.1 plain)

-- the uses of an item that fits
pub item_plain : (f : Format) (index : Key → ℕ) (i : Item) → ItemFits f index i → UsesPlain (uses_of i)
item_plain f index i fit =
    let l = layout_of_item i in
    pieces-plain f index l.provider l.pieces (arguments_uses l.provider l.arguments) fit.layout.pieces
    (arguments-plain f index l.provider l.arguments fit.layout.arguments)

-- the uses of items that fit as they are written
pub items_plain : (f : Format) (chosen : Use → Bool) (entries : List Entry) (items : List Item) → AllFit f chosen entries items → UsesPlain (uses_all items)
items_plain f chosen entries [] fit = tt
items_plain f chosen entries (i ∷ items) fit =
    plain_both (uses_of i) (uses_all items) (item_plain f _ i fit.1) (items_plain f chosen (entries_after chosen entries (uses_of i)) items fit.2)

-- ---- uses are counted

-- each of these is counted in the uses
abbrev UsesCounted : List Use → List Use → Type 0
UsesCounted uses [] = Unit {0}
UsesCounted uses (u ∷ us) = (0 < count same_use u uses) × UsesCounted uses us

-- with one use more they are counted still
counted_more : (v : Use) (uses us : List Use) → UsesCounted uses us → UsesCounted (v ∷ uses) us
counted_more v uses [] h = tt
counted_more v uses (u ∷ us) h = (omega (arith, h.0), counted_more v uses us h.1)

-- all uses are counted in themselves
counted_all : (uses : List Use) → UsesCounted uses uses
counted_all [] = tt
counted_all (u ∷ uses) = (rw (same_use_refl u) (omega arith), counted_more u uses uses (counted_all uses))

-- ---- uses are within the limits

-- keys that fit where they are registered, in two parts of uses
fit_both : (f : Format) (chosen : Use → Bool) (entries : List Entry) (us vs : List Use) → UsesFit f chosen entries us
    → UsesFit f chosen (entries_after chosen entries us) vs → UsesFit f chosen entries (us ++ vs)
fit_both f chosen entries [] vs h k = k
fit_both f chosen entries (u ∷ us) vs h k = (h.0, fit_both f chosen (with_use chosen entries u) us vs h.1 k)

-- and in all uses of items that fit as they are written
items_fit : (f : Format) (chosen : Use → Bool) (entries : List Entry) (items : List Item) → AllFit f chosen entries items
    → UsesFit f chosen entries (uses_all items)
items_fit f chosen entries [] fit = tt
items_fit f chosen entries (i ∷ items) fit =
    fit_both f chosen entries (uses_of i) (uses_all items) fit.0 (items_fit f chosen (entries_after chosen entries (uses_of i)) items fit.2)

-- uses that are counted, fit and keep the limits behind all of them are ready
uses_ready : (f : Format) (uses : List Use) (entries : List Entry) (us : List Use) → Limited f (entries_after (chosen_in uses) entries us) us
    → UsesFit f (chosen_in uses) entries us → UsesCounted uses us → UsesReady f uses entries us
uses_ready f uses entries [] limited fit counted = tt
uses_ready f uses entries (u ∷ us) limited fit counted = (
  record { used = counted.0; few = omega (arith, limited.0, uses_grow (chosen_in uses) entries (u ∷ us) u); fits = fit.0 },
  uses_ready f uses (with_use (chosen_in uses) entries u) us limited.1 fit.1 counted.1,
)

-- ---- archives that are not refused

-- at the small size the items of an archive that is not refused fit as they are written
small_fit : (archive : List ℕ) → Accepted small_format archive → AllBytes archive
    → AllFit small_format (chosen_in (uses_all (items_of (run_of small_format archive)))) [] (items_of (run_of small_format archive))
small_fit archive accepted bytes =
    let items = items_of (run_of small_format archive) in
    let reads = accepted_reads small_format archive accepted in
    (accepted_writable archive items accepted bytes reads (shortest small_format archive archive items accepted reads reads)).fits

-- the same where the format is known to be the small one
pub accepted_fit : (f : Format) (archive : List ℕ) → f ≡ small_format → Accepted f archive → AllBytes archive
    → AllFit f (chosen_in (uses_all (items_of (run_of f archive)))) [] (items_of (run_of f archive))
accepted_fit f archive is = subst P (sym is) (small_fit archive)
  where
    P : Format → Type 0
    P g = Accepted g archive → AllBytes archive → AllFit g (chosen_in (uses_all (items_of (run_of g archive)))) [] (items_of (run_of g archive))

-- and all uses of the archive are ready
pub accepted_ready : (f : Format) (archive : List ℕ) → f ≡ small_format → Accepted f archive → AllBytes archive
    → UsesReady f (uses_all (items_of (run_of f archive))) [] (uses_all (items_of (run_of f archive)))
accepted_ready f archive is accepted bytes =
    let items = items_of (run_of f archive) in
    let uses = uses_all items in
    let passes = not_refused-passes f (run_of f archive) accepted.not_refused in
    uses_ready f uses [] uses (limits-kept f (chosen_in uses) uses uses (limits_of f [] (run_of f archive) refl passes.limits))
    (items_fit f (chosen_in uses) [] items (accepted_fit f archive is accepted bytes)) (counted_all uses)
