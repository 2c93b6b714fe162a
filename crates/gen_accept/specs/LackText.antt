-- The words for what is not supported.
use Rattle.std.specs.Prelude.{ℕ, List, codes}
use Rattle.gen_accept.specs.declared.error.Lack.{Lack}
use Rattle.gen_accept.specs.declared.error.Lack.TheVariants.{Async, Future, Stream, ErrorContext, Flags, WorldResource, RemappedExport, RemappedImport, BorrowInFixedList, BorrowInList, OwningChain, Unbuilt}

unfoldable pub lack_text : Lack → List ℕ
lack_text Async = codes "async"
lack_text Future = codes "future"
lack_text Stream = codes "stream"
lack_text ErrorContext = codes "error-context"
lack_text Flags = codes "flags"
lack_text WorldResource = codes "world resource"
lack_text RemappedExport = codes "remapped export"
lack_text RemappedImport = codes "remapped import"
lack_text BorrowInFixedList = codes "borrow in fixed list"
lack_text BorrowInList = codes "borrow in list"
lack_text OwningChain = codes "owning chain"
lack_text Unbuilt = codes "unbuilt"
