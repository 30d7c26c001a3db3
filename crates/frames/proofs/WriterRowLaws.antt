-- The writer answers rows 5 to 8, 10, 12, 17, 24 and 25 and no other.
use Prim.Native.Nat.{ℕ}
use borrow.Author.Rules.{rules}
use mathlib.Core.Path.{refl}
use mathlib.Core.List.{List}
use Rattle.frames.specs.Answers.{accepted}
use lib.Dec.{ltb}
use lib.ListN.{length}
use Rattle.frames.specs.Kinds.{among}
use Rattle.frames.specs.Layout.{frame_line}
use Rattle.frames.specs.Buffer.{put_of}
use Rattle.frames.specs.Ranges.{checked}
use Rattle.frames.specs.declared.records.Record.{Record}
use Rattle.frames.proofs.RowLaws.{Only, Ranged, accepted-only, row-only, onward-only, checked-only}
use Rattle.frames.specs.Writer.{text_of, write_of}
use Rattle.frames.specs.RoundTrip.{writer_rows}

write-ranged : Ranged writer_rows
unfolding among
write-ranged = search rules

text-only : (r : Record) → Only writer_rows (text_of r)
unfolding text_of
text-only r =
    onward-only (checked r) (λ _. accepted (frame_line r)) (checked-only write-ranged r)
    (λ _. accepted-only _)

put_only : (text : List ℕ) (room : ℕ) → Only writer_rows (put_of text room)
unfolding among
put_only text room = row-only (ltb room (length text)) _ _ _ refl (accepted-only _)

pub write-only : (r : Record) (room : ℕ) → Only writer_rows (write_of r room)
unfolding write_of
write-only r room =
    onward-only (text_of r) (λ t. put_of t room) (text-only r) (λ t. put_only t room)
