mod SideBySide
