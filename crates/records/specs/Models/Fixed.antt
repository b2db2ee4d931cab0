-- The words that an item takes whatever is registered: what the first pass adds up, and the laws of lengths speak of.
use Rattle.std.specs.Prelude.{ℕ, ◌+◌, [], List, ◌∷◌, length}
use Rattle.words.specs.Stream.{stream_words}
use Rattle.arguments.specs.Argument.{scalar_words}
use Rattle.records.specs.Item.{Value, Argument, Piece, ItemLayout, Item, layout_of_item, scalar, text, words, stream, refers}

-- the words of a value behind its argument's name, without a text
abbrev pub value_words : Value → ℕ
value_words (scalar s) = scalar_words s
value_words (text t) = 0

abbrev pub arguments_words : List Argument → ℕ
arguments_words [] = 0
arguments_words (a ∷ l) = 1 + value_words a.value + arguments_words l

abbrev pub piece_words : Piece → ℕ
piece_words (words ns) = length ns
piece_words (stream b) = stream_words (length b)
piece_words (refers x) = 0

abbrev pub pieces_words : List Piece → ℕ
pieces_words [] = 0
pieces_words (p ∷ ps) = piece_words p + pieces_words ps

-- the words that a record takes whatever is registered: without inline texts and threads
abbrev pub layout_fixed : ItemLayout → ℕ
layout_fixed l = 1 + pieces_words l.pieces + arguments_words l.arguments + length l.last

abbrev pub fixed_words : Item → ℕ
fixed_words i = layout_fixed (layout_of_item i)
