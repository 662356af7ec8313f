-- Addresses in memory.
use denote.RawPtr.{Ptr, InBlock}

-- an address lies in a block of memory
abbrev pub IsNotNull : Ptr → Type 0
IsNotNull p = InBlock p
