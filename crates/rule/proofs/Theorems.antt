-- Repacking whole archives: no archive that reads as the same list is shorter, the list alone decides the bytes, they read back as the list, and repacking them again changes nothing.
-- Assumes nothing.
use Prim.Native.Nat.{ℕ, ◌≤◌}
use mathlib.Core.Path.{◌≡◌, sym, ap, ◌∙◌}
use mathlib.Core.List.{List}
use native.Mathlib.Omega.{arith}
use lib.ListN.{length}
use Rattle.format.specs.declared.Format.{Format}
use Rattle.format.specs.Limits.{small_format}
use Rattle.records.specs.Item.{Item}
use Rattle.reader.specs.Reads.{ReadsAs}
use Rattle.rule.specs.Rule.{rule}
use Rattle.rule.specs.Refusal.{run_of, items_of, Accepted, written_length}
use Rattle.rule.proofs.Accepted.{accepted_writable}
use Rattle.rule.proofs.Again.{accepted_again}
use Rattle.words.proofs.Words.{AllBytes}
use Rattle.rule.proofs.Length.{rule-least_bytes}
use Rattle.rule.proofs.Lower.{any_run_pays}
use Rattle.rule.proofs.ReadBack.{rule_reads}
use Rattle.rule.proofs.WholeRuns.{reads_items, not_refused_reads}

-- An archive that reads to its end as a list of items is repacked as that list: the items of its run are the list's, all of them, in order.
pub run_items : (f : Format) (a : List ℕ) (l : List Item) → ReadsAs f a l → items_of (run_of f a) ≡ l
run_items f a l r = reads_items f a l r

-- Every archive that repacking accepts reads to its end, as the items of its run.
pub accepted_reads : (f : Format) (a : List ℕ) → Accepted f a → ReadsAs f a (items_of (run_of f a))
accepted_reads f a h = not_refused_reads f a h

-- "For every archive the repacker accepts, no shorter archive exists": any archive at all that reads to its end as the same list of items, whatever
-- it registers, replaces or spells out, has at least as many bytes as the written length.
pub shortest : (f : Format) (a b : List ℕ) (l : List Item) → Accepted f a → ReadsAs f a l → ReadsAs f b l → written_length f a ≤ length b
shortest f a b l h r s =
    let paid = any_run_pays f b l s in
    rw (run_items f a l r) (omega (arith, paid.1, rule-least_bytes f l paid.0))

-- "Two accepted archives with the same list become the same bytes", those that the rule gives for the list.
pub same_list_same_bytes : (f : Format) (a b : List ℕ) (l : List Item) → Accepted f a → Accepted f b → ReadsAs f a l → ReadsAs f b l
    → rule f (items_of (run_of f a)) ≡ rule f (items_of (run_of f b))
same_list_same_bytes f a b l h k r s = ap (rule f) (run_items f a l r ∙ sym (run_items f b l s))

-- "What the repacker writes reads back as the same list of items": the bytes that the rule gives for the list of an accepted archive, exactly as many
-- as the written length says, are themselves an archive that reads to its end as that list.
pub reads_back : (a : List ℕ) (l : List Item) → Accepted small_format a → AllBytes a → ReadsAs small_format a l
    → ReadsAs small_format (rule small_format l) l × (length (rule small_format l) ≡ written_length small_format a)
reads_back a l h bytes r =
    let same : written_length small_format a ≡ length (rule small_format l) = ap (λ items. length (rule small_format items)) (run_items small_format a l r) in
    let short : length (rule small_format l) ≤ length a = omega (arith, same, shortest small_format a a l h r r) in
    (rule_reads small_format l (accepted_writable a l h bytes r short), sym same)

-- Repacking what was written gives the same bytes again.
pub again : (a : List ℕ) (l : List Item) → Accepted small_format a → AllBytes a → ReadsAs small_format a l
    → Accepted small_format (rule small_format l) × (rule small_format (items_of (run_of small_format (rule small_format l))) ≡ rule small_format l)
again a l h bytes r = (accepted_again a l h bytes r, ap (rule small_format) (run_items small_format (rule small_format l) l (reads_back a l h bytes r).0))
