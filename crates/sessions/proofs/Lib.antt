mod Dispatch
